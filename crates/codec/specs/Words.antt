-- Words of eight bytes, the lowest byte first, in a string of bytes: how they are read and written, and numbers as such words.
use Rattle.std.specs.Prelude.{ℕ, zero, suc, ◌+◌, ◌*◌, ◌/◌, ◌%◌, cond, List, leb, length, get_or, set, replicate, Float}
use Rattle.std.specs.Float.{nan, binary64}
use Rattle.std.specs.Float.Ieee.{of_bits, to_bits}
use Rattle.iterate.specs.Iterate.{first_by}

-- the number of the k + 1 bytes from place a on
unfoldable pub bytes_at : ℕ → List ℕ → ℕ → ℕ
bytes_at zero s a = get_or s a 0
bytes_at (suc k) s a = get_or s a 0 + 256 * bytes_at k s (a + 1)

-- s with the k + 1 lowest bytes of n from place a on
unfoldable pub put_bytes : ℕ → List ℕ → ℕ → ℕ → List ℕ
put_bytes zero s a n = set s a (n % 256)
put_bytes (suc k) s a n = put_bytes k (set s a (n % 256)) (a + 1) (n / 256)

-- word k; 0 where it is not whole
unfoldable pub word_at : List ℕ → ℕ → ℕ
word_at s k = cond (leb (k * 8 + 8) (length s)) (bytes_at 7 s (k * 8)) 0

-- s with n as word k; s where that is not whole
unfoldable pub put_word : List ℕ → ℕ → ℕ → List ℕ
put_word s k n = cond (leb (k * 8 + 8) (length s)) (put_bytes 7 s (k * 8) n) s

-- the number whose bits are word k: every pattern of a NaN is the NaN
unfoldable pub float_at : List ℕ → ℕ → Float
float_at s k = of_bits binary64 (word_at s k)

-- s with the bits of x as word k
unfoldable pub put_float : List ℕ → ℕ → Float → List ℕ
put_float s k x = put_word s k (to_bits binary64 x)

-- s with the first n places of c as the words from `at` on
unfoldable pub put_places : ℕ → List ℕ → ℕ → List Float → List ℕ
put_places zero s at c = s
put_places (suc n) s at c = put_float (put_places n s at c) (at + n) (get_or c n nan)

-- the n numbers from word `at` on
abbrev pub places_at : ℕ → List ℕ → ℕ → List Float
places_at n s at = first_by n (λ k. float_at s (at + k)) (replicate n (of_bits binary64 0))

-- s with every place of c as the words from `at` on
abbrev pub put_row : List ℕ → ℕ → List Float → List ℕ
put_row s at c = put_places (length c) s at c
