-- The value of a float as a fraction. The order of finite floats is that of their values. Assumes nothing.
use Rattle.std.specs.Prelude.{◌≡◌, [], ◌∷◌, ℕ, suc, ◌+◌, ◌*◌, ◌^◌, ◌≤◌, ◌<◌, Bool, true, false, T, ℤ, pos, negsuc, nat_abs, Float}
use Rattle.std.proofs.Common.{ap, zero-le, le_trans, le_of_eq, mul-one, zero-mul, zero-lt-suc}
use Rattle.std.proofs.Math.Bridge.{le_prop}
use Rattle.std.specs.Float.{nan, inf, fin, binary64}
use Rattle.std.specs.Float.Ieee.{up, down, le, lt, neg, of_int}
use Rattle.std.specs.Float.Ieee.Exact.{HasValue}
use Rattle.std.specs.Float.Ieee.Fits.{down_pos}
use Rattle.std.specs.Float.Ieee.Positive.{num, den, den_pos}
use Rattle.std.specs.Float.Ieee.Scale.{finite}
use Rattle.fraction.specs.Integer.{pos-≤, ≤-pos}
use Rattle.fraction.specs.Fraction.{Fraction, whole, nat, ◌+F◌, neg_f, ◌-F◌, ◌≈F◌, ◌≤F◌, ◌<F◌, ◌within◌}
use Rattle.fraction.proofs.Field.{≈F-refl, neg_f-cong, lt_not_le, lt_of_not_le}
use Rattle.fraction.proofs.Certificate.{quote}
use Rattle.fraction.proofs.Certificate.{ring, le_by, up as gap, lo, ◌⊞◌}
use Rattle.fraction.proofs.Within.{within_neg}
use Rattle.binary64.specs.Operators.{negative}
use Rattle.binary64.specs.Order.{Below, le→below, below→le, lt→not, not→lt, value_finite, value_sign, value_cross, below_zero_lem, int_value}
use Rattle.binary64.specs.Value.{below→signed, ratio, ratio_same, signed, signed_cong, signed→below, val, val_is}

-- ---- `le` and `lt` are the order of values
module _ (x y : Float) (p : T (finite x)) (q : T (finite y)) where
  pub le_val : T (le x y) → val x ≤F val y
  le_val h = rw (val_is x p, val_is y q) (below→signed (negative x) (negative y) (num x) (den x) (num y) (den y) (den_pos x) (den_pos y) (le→below x y p q h))

  pub val_le : val x ≤F val y → T (le x y)
  val_le h = below→le x y p q (signed→below (negative x) (negative y) (num x) (den x) (num y) (den y) (den_pos x) (den_pos y) (rw (val_is x p, val_is y q) at h))

pub lt_val : (x y : Float) → T (finite x) → T (finite y) → T (lt x y) → val x <F val y
lt_val x y p q h = lt_of_not_le (λ (k : val y ≤F val x). lt→not x y p q h (val_le y x q p k))

pub val_lt : (x y : Float) → T (finite x) → T (finite y) → val x <F val y → T (lt x y)
val_lt x y p q h = not→lt x y p q (λ (k : T (le y x)). lt_not_le h (le_val y x q p k))

-- ---- a float given as ±a / c, negation, whole numbers
pub value_is : (x : Float) (s : Bool) (a c : ℕ) (C : 0 < c) → HasValue x s a c → val x ≈F signed s (ratio a c C)
value_is x s a c C h = rw (val_is x (value_finite x s a c h), value_sign x s a c h) (signed_cong s (ratio_same (value_cross x s a c h)))

pub val_neg : (x : Float) → val (neg x) ≈F neg_f (val x)
unfolding val neg
val_neg nan = ring [] (search quote depth 24) tt
val_neg (inf s) = ring [] (search quote depth 24) tt
val_neg (fin false m e) = ≈F-refl
val_neg (fin true m e) = ring (ratio (m * up e) (down e) (down_pos e) ∷ []) (search quote depth 24) tt

pub int_val : (z : ℤ) → nat_abs z ≤ 2 ^ 53 → val (of_int binary64 z) ≈F whole z
unfolding whole neg_f
int_val (pos n) h = value_is (of_int binary64 (pos n)) false n 1 (zero-lt-suc 0) (int_value (pos n) h)
int_val (negsuc n) h = value_is (of_int binary64 (negsuc n)) true (suc n) 1 (zero-lt-suc 0) (int_value (negsuc n) h)
