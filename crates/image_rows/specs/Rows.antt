-- Rows that hold no NaN, by their words or by their places. Definitions only.
use Rattle.std.specs.Prelude.{ℕ, ◌+◌, ◌/◌, ◌%◌, Bool, not, List, eqb, length, get_or, Float}
use Rattle.std.specs.Float.{nan}
use Rattle.std.specs.Float.Ieee.{eq}
use Rattle.iterate.specs.Iterate.{all_below}
use Rattle.codec.specs.Words.{word_at}

-- the exponent of a word is not all ones
unfoldable pub finite_pattern : ℕ → Bool
finite_pattern n = not (eqb (n / 0x10_0000_0000_0000 % 0x800) 0x7ff)

-- of the n words from `at` on
unfoldable pub finite_words : List ℕ → ℕ → ℕ → Bool
finite_words s at n = all_below n (λ k. finite_pattern (word_at s (at + k)))

-- no place is a NaN, which alone is not equal to itself
unfoldable pub no_nan_of : List Float → Bool
no_nan_of c = all_below (length c) (λ k. eq (get_or c k nan) (get_or c k nan))
