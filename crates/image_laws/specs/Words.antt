-- A word that is written is read back, and no other word is touched; the first bytes hold the first words. Assumes nothing.
use Rattle.std.specs.Prelude.{ℕ, zero, suc, ◌≤◌, ◌<◌, ◌+◌, ◌*◌, ◌/◌, ◌%◌, ◌^◌, ◌≡◌, refl, Bool, true, false, cond, ◌⊎◌, List, T, leb, length, get_or, set, take, Float}
use Rattle.std.proofs.Common.{ap, ◌∙◌, inl, inr, ⊎_elim, arith, mod-eq_of_lt, pow-suc, length-set, get_or-set_same, get_or-set_other, get_or-take, length-take-le, le-leb}
use Rattle.std.proofs.Math.Nat.{mod-add-div}
use Rattle.std.specs.Float.{binary64}
use Rattle.std.specs.Float.Ieee.{fits, to_bits}
use Rattle.std.specs.Float.Ieee.Bits.{of_bits-to_bits, to_bits-lt}
use Rattle.codec.specs.Words.{bytes_at, put_bytes, word_at, put_word, float_at, put_float}

-- i is none of a to b - 1
abbrev pub Outside : ℕ → ℕ → ℕ → Type 0
Outside a b i = (i < a) ⊎ (b ≤ i)

-- ---- bytes
bytes_length : (k : ℕ) (s : List ℕ) (a n : ℕ) → length (put_bytes k s a n) ≡ length s
unfolding put_bytes
bytes_length zero s a n = length-set s a (n % 256)
bytes_length (suc k) s a n = bytes_length k (set s a (n % 256)) (a + 1) (n / 256) ∙ length-set s a (n % 256)

-- a byte that is none of the k + 1
byte_other : (k : ℕ) (s : List ℕ) (a n i : ℕ) → Outside a (a + k + 1) i → get_or (put_bytes k s a n) i 0 ≡ get_or s i 0
unfolding put_bytes
byte_other zero s a n i h = get_or-set_other s a i (n % 256) 0 (λ e. ⊎_elim (λ q. omega (arith, e, q)) (λ q. omega (arith, e, q)) h)
byte_other (suc k) s a n i h =
    let o : Outside (a + 1) (a + 1 + k + 1) i = ⊎_elim (λ q. inl (omega (arith, q))) (λ q. inr (omega (arith, q))) h in
    byte_other k (set s a (n % 256)) (a + 1) (n / 256) i o
    ∙ get_or-set_other s a i (n % 256) 0 (λ e. ⊎_elim (λ q. omega (arith, e, q)) (λ q. omega (arith, e, q)) h)

-- a number of bytes that are none of those
number_other : (j k : ℕ) (s : List ℕ) (a n b : ℕ) → (b + j < a) ⊎ (a + k < b) → bytes_at j (put_bytes k s a n) b ≡ bytes_at j s b
unfolding bytes_at
number_other zero k s a n b h = byte_other k s a n b (⊎_elim (λ q. inl (omega (arith, q))) (λ q. inr (omega (arith, q))) h)
number_other (suc j) k s a n b h =
    rw (
      byte_other k s a n b (⊎_elim (λ q. inl (omega (arith, q))) (λ q. inr (omega (arith, q))) h),
      number_other j k s a n (b + 1) (⊎_elim (λ q. inl (omega (arith, q))) (λ q. inr (omega (arith, q))) h),
    )

-- the number that is written, where it fits
number_read_back : (k : ℕ) (s : List ℕ) (a n : ℕ) → a + k < length s → n < 256 ^ suc k → bytes_at k (put_bytes k s a n) a ≡ n
unfolding bytes_at put_bytes
number_read_back zero s a n h m = get_or-set_same s a (n % 256) 0 (omega (arith, h)) ∙ mod-eq_of_lt m
number_read_back (suc k) s a n h m =
    let l : a + 1 + k < length (set s a (n % 256)) = rw (length-set s a (n % 256)) (omega (arith, h)) in
    let q : n / 256 < 256 ^ suc k = omega (arith, m, pow-suc 256 (suc k)) in
    let o : Outside (a + 1) (a + 1 + k + 1) a = inl (omega arith) in
    let e : get_or (put_bytes k (set s a (n % 256)) (a + 1) (n / 256)) a 0 ≡ n % 256 = byte_other k (set s a (n % 256)) (a + 1) (n / 256) a o ∙ get_or-set_same s a (n % 256) 0 (omega (arith, h)) in
    rw (e, number_read_back k (set s a (n % 256)) (a + 1) (n / 256) l q) (mod-add-div n 256)

number_take : (k m : ℕ) (s : List ℕ) (a : ℕ) → a + k < m → bytes_at k (take m s) a ≡ bytes_at k s a
unfolding bytes_at
number_take zero m s a h = get_or-take m s a 0 (omega (arith, h))
number_take (suc k) m s a h = rw (get_or-take m s a 0 (omega (arith, h)), number_take k m s (a + 1) (omega (arith, h)))

-- ---- words
length_either : (b : Bool) (s : List ℕ) (a n : ℕ) → length (cond b (put_bytes 7 s a n) s) ≡ length s
length_either true s a n = bytes_length 7 s a n
length_either false s a n = refl

pub word_length : (s : List ℕ) (k n : ℕ) → length (put_word s k n) ≡ length s
unfolding put_word
word_length s k n = length_either (leb (k * 8 + 8) (length s)) s (k * 8) n

other_either : (c : Bool) (s : List ℕ) (a n b : ℕ) → (b + 7 < a) ⊎ (a + 7 < b) → bytes_at 7 (cond c (put_bytes 7 s a n) s) b ≡ bytes_at 7 s b
other_either true s a n b h = number_other 7 7 s a n b h
other_either false s a n b h = refl

other_bytes : (s : List ℕ) (k n j : ℕ) → Outside k (k + 1) j → bytes_at 7 (put_word s k n) (j * 8) ≡ bytes_at 7 s (j * 8)
unfolding put_word
other_bytes s k n j h =
    other_either (leb (k * 8 + 8) (length s)) s (k * 8) n (j * 8) (⊎_elim (λ q. inl (omega (arith, q))) (λ q. inr (omega (arith, q))) h)

-- EVERY OTHER WORD stays
pub word_other : (s : List ℕ) (k n j : ℕ) → Outside k (k + 1) j → word_at (put_word s k n) j ≡ word_at s j
unfolding word_at
word_other s k n j h = rw (word_length s k n) (ap (λ w. cond (leb (j * 8 + 8) (length s)) w 0) (other_bytes s k n j h))

-- (what the theorems here and of the next modules rest on, each by itself)
pub word_written : (s : List ℕ) (k n : ℕ) → k * 8 + 8 ≤ length s → n < 2 ^ 64 → word_at (put_word s k n) k ≡ n
unfolding word_at put_word
word_written s k n h m =
    rw (le-leb (k * 8 + 8) (length s) h, bytes_length 7 s (k * 8) n, le-leb (k * 8 + 8) (length s) h) (number_read_back 7 s (k * 8) n (omega (arith, h)) m)

-- THE WORD THAT IS WRITTEN is read
pub word_read_back : (s : List ℕ) (k n : ℕ) → k * 8 + 8 ≤ length s → n < 2 ^ 64 → word_at (put_word s k n) k ≡ n
word_read_back s k n h m = word_written s k n h m

pub float_written : (s : List ℕ) (k : ℕ) (x : Float) → k * 8 + 8 ≤ length s → T (fits binary64 x) → float_at (put_float s k x) k ≡ x
unfolding float_at put_float
float_written s k x h f = rw (word_written s k (to_bits binary64 x) h (to_bits-lt binary64 x f)) (of_bits-to_bits binary64 x f)

-- so is a number that binary64 holds, the NaN too
pub float_read_back : (s : List ℕ) (k : ℕ) (x : Float) → k * 8 + 8 ≤ length s → T (fits binary64 x) → float_at (put_float s k x) k ≡ x
float_read_back s k x h f = float_written s k x h f

-- a word of the first m bytes
pub word_take : (m : ℕ) (s : List ℕ) (k : ℕ) → k * 8 + 8 ≤ m → m ≤ length s → word_at (take m s) k ≡ word_at s k
unfolding word_at
word_take m s k h l =
    rw (length-take-le m s l, le-leb (k * 8 + 8) m h, le-leb (k * 8 + 8) (length s) (omega (arith, h, l))) (number_take 7 m s (k * 8) (omega (arith, h)))
