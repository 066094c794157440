-- What the tests of a row find: its words are whole, and no word or place is a NaN. Assumes nothing.
use Prim.Native.Nat.{ℕ, ◌+◌, ◌*◌, ◌/◌, ◌%◌, ◌≤◌}
use mathlib.Core.Path.{◌≡◌, subst}
use mathlib.Core.Bool.{not}
use mathlib.Core.List.{List}
use native.Mathlib.Omega.{arith}
use native.Mathlib.Nat.{lt_irrefl, lt_of_lt_of_le}
use lib.Dec.{T, eqb, eqb_refl, T_not, not_T, ltb→lt}
use lib.ListN.{length}
use lib.Ieee.{Float, nan, inf, fin, binary64, is_nan, eq, nan_bits}
use lib.Ieee.Bits.{nan_bits_above}
use borrow.Author.Tests.{le-leb}
use Rattle.codec.specs.Words.{bytes_at, word_at, put_bytes, put_word}
use Rattle.image_rows.specs.Rows.{finite_pattern}

-- a whole word
pub word_is : (s : List ℕ) (k : ℕ) → k * 8 + 8 ≤ length s → bytes_at 7 s (k * 8) ≡ word_at s k
unfolding word_at
word_is s k h = rw (le-leb (k * 8 + 8) (length s) h)

pub put_is : (s : List ℕ) (k n : ℕ) → k * 8 + 8 ≤ length s → put_bytes 7 s (k * 8) n ≡ put_word s k n
unfolding put_word
put_is s k n h = rw (le-leb (k * 8 + 8) (length s) h)

-- the pattern of a finite number is no NaN's
below : (n : ℕ) → T (finite_pattern n) → n % 0x8000_0000_0000_0000 ≤ 0x7ff0_0000_0000_0000
unfolding finite_pattern
below n h =
    let e = n / 0x10_0000_0000_0000 % 0x800 in
    let ne : e ≡ 0x7ff → ⊥ = λ q. T_not (eqb e 0x7ff) h (subst (λ (m : ℕ). T (eqb e m)) q (eqb_refl e)) in
    omega (arith, ne)

pub no_nan_pattern : (n : ℕ) → T (finite_pattern n) → T (not (nan_bits binary64 n))
no_nan_pattern n h =
    not_T (nan_bits binary64 n)
    (λ t. lt_irrefl 0x7ff0_0000_0000_0000 (lt_of_lt_of_le (ltb→lt 0x7ff0_0000_0000_0000 (n % 0x8000_0000_0000_0000) (subst T (nan_bits_above binary64 n) t)) (below n h)))

-- a number equal to itself is no NaN
pub no_nan : (x : Float) → T (eq x x) → T (not (is_nan x))
unfolding is_nan eq
no_nan nan h = h
no_nan (inf s) h = tt
no_nan (fin s m e) h = tt
