-- Digits and power of ten are exact, so their quotient is the decimal rounded once. Assumes nothing.
use Rattle.std.proofs.Common.{◌≡◌, ℕ, ◌*◌, ◌^◌, ◌<◌, ◌≤◌, Bool, false, ◌&&◌, T, eqb, pos, sym, ap, ◌∙◌, zero-lt-suc, mul_assoc, mul_comm, mul-pos, mul-one, mul_left_comm, arith, eqb→eq}
use native.Mathlib.Nat.{one-le-pow}
use lib.Ieee.{Float, binary64, unlike, round, mul, of_bits}
use lib.Ieee.Fits.{and_l, and_r}
use lib.Ieee.Exact.{HasValue}
use lib.Ieee.Positive.{num, den, den_pos, positive, positive-finite, own_value, value_pos}
use lib.Ieee.Scale.{round_same}
use Rattle.binary64.specs.Operators.{◌⊘◌, count, negative}
use Rattle.binary64.specs.Opened.{div_is}
use Rattle.binary64.specs.Order.{int_value, value_finite, value_sign, value_cross}
use Rattle.binary64.specs.Decimal.{decimal}
use Rattle.iterate.specs.Iterate.{all_below, all_at}
use Rattle.decimal_text.specs.Nearest.{tens}

-- above 0, and the whole number n
abbrev whole : Float → ℕ → Bool
whole x n = positive x && eqb (num x) (n * den x)

tens_whole : T (all_below 23 (λ k. whole (tens k) (10 ^ k)))
unfolding all_below tens mul round of_bits
tens_whole = tt

module _ (x y : Float) (m p : ℕ) (hx : HasValue x false m 1) (hy : T (whole y p)) where
  above : T (positive y)
  above = and_l (positive y) (eqb (num y) (p * den y)) hy

  own : HasValue y false (num y) (den y)
  own = own_value y above

  is_p : num y ≡ p * den y
  is_p = eqb→eq (num y) (p * den y) (and_r (positive y) (eqb (num y) (p * den y)) hy)

  is_m : num x ≡ m * den x
  is_m = sym (mul-one (num x)) ∙ value_cross x false m 1 hx

  same_sign : unlike (negative x) (negative y) ≡ false
  same_sign = rw (value_sign x false m 1 hx, value_sign y false (num y) (den y) own)

  crossed : num x * den y * p ≡ m * (num y * den x)
  crossed = rw (is_m, is_p) (simp (mul_assoc, mul_comm, mul_left_comm))

  once : 0 < p → x ⊘ y ≡ round binary64 false m p
  once q =
      let n = value_pos y (num y) (den y) above (den_pos y) own in
      div_is binary64 x y (value_finite x false m 1 hx) (positive-finite y above) n
      ∙ ap (λ (s : Bool). round binary64 s (num x * den y) (num y * den x)) same_sign
      ∙ round_same binary64 false (num x * den y) (num y * den x) m p (mul-pos n (den_pos x)) q crossed

pub quotient_is : (m k : ℕ) → m ≤ 2 ^ 53 → k ≤ 22 → count m ⊘ tens k ≡ decimal m k
quotient_is m k h l = once (count m) (tens k) m (10 ^ k) (int_value (pos m) h) (all_at (λ j. whole (tens j) (10 ^ j)) 23 k (omega arith) tens_whole) (one-le-pow k 10 (zero-lt-suc 9))
