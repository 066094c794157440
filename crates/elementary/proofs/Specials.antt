-- What the functions give at NaN, infinities and zeros. Assumes nothing.
use mathlib.Core.Path.{◌≡◌, refl, ap, ◌∙◌}
use mathlib.Core.Bool.{Bool, true, false, ◌||◌, cond}
use lib.IntN.{pos}
use lib.Ieee.{Float, nan, inf, fin, lt, div, add, sub, mul, neg, round, size, is_nan, of_bits}
use Rattle.binary64.specs.Operators.{◌⊗◌}
use Rattle.binary64.specs.Literals.{«0·0»}
use Rattle.square_root.specs.Root.{sqrt_of}
use Rattle.elementary.specs.Exp.{one, series, squarings, powered, exp_of}
use Rattle.elementary.specs.Ln.{ln_of}
use Rattle.min_max.specs.MinMax.{abs_of, clamp_of, max_of, min_of}
use Rattle.elementary.specs.Asinh.{asinh_log, asinh_taylor, asinh_of}
use Rattle.elementary.specs.Power.{powf_of}
use Rattle.min_max.specs.Count.{ceil_of}

pub record Specials : Type 0 where
  pub exp_nan : exp_of nan ≡ nan
  pub exp_infinity : exp_of (inf false) ≡ inf false
  pub exp_minus_infinity : exp_of (inf true) ≡ «0·0»
  pub ln_nan : ln_of nan ≡ nan
  pub ln_zero : (s : Bool) → ln_of (fin s 0 (pos 0)) ≡ inf true
  pub ln_infinity : ln_of (inf false) ≡ inf false
  pub ln_minus_infinity : ln_of (inf true) ≡ nan
  pub asinh_nan : asinh_of nan ≡ nan
  pub asinh_zero : (s : Bool) → asinh_of (fin s 0 (pos 0)) ≡ fin s 0 (pos 0)
  pub asinh_infinity : (s : Bool) → asinh_of (inf s) ≡ inf s
  pub powf_nan_base : (b : Float) → powf_of nan b ≡ nan
  pub powf_nan_exponent : (x : Float) → powf_of x nan ≡ nan
  -- a NaN passes the clamp, and the zero of either sign one that starts at 0
  pub clamp_nan : (lo hi : Float) → clamp_of nan lo hi ≡ nan
  pub clamp_zero : (s : Bool) → clamp_of (fin s 0 (pos 0)) «0·0» one ≡ fin s 0 (pos 0)
  -- one NaN gives the other
  pub max_nan : (x : Float) → (max_of nan x ≡ x) × (max_of x nan ≡ x)
  pub min_nan : (x : Float) → (min_of nan x ≡ x) × (min_of x nan ≡ x)
  pub abs_zero : (s : Bool) → abs_of (fin s 0 (pos 0)) ≡ «0·0»
  pub ceil_nan : ceil_of nan ≡ 0

exp_at_nan : exp_of nan ≡ nan
unfolding exp_of powered series squarings lt div add mul of_bits
exp_at_nan = refl

ln_at_nan : ln_of nan ≡ nan
unfolding ln_of
ln_at_nan = refl

mul_nan : (b : Float) → b ⊗ nan ≡ nan
unfolding mul
mul_nan nan = refl
mul_nan (inf s) = refl
mul_nan (fin s m e) = refl

nan_mul : (b : Float) → nan ⊗ b ≡ nan
unfolding mul
nan_mul b = refl

asinh_at_zero : (s : Bool) → asinh_of (fin s 0 (pos 0)) ≡ fin s 0 (pos 0)
unfolding asinh_of asinh_taylor sub mul div lt round size of_bits
asinh_at_zero true = refl
asinh_at_zero false = refl

asinh_at_infinity : (s : Bool) → asinh_of (inf s) ≡ inf s
unfolding asinh_of asinh_log ln_of sqrt_of add mul neg lt of_bits
asinh_at_infinity true = refl
asinh_at_infinity false = refl

clamp_at_zero : (s : Bool) → clamp_of (fin s 0 (pos 0)) «0·0» one ≡ fin s 0 (pos 0)
unfolding lt of_bits
clamp_at_zero true = refl
clamp_at_zero false = refl

not_below_nan : (x : Float) → lt x nan ≡ false
unfolding lt
not_below_nan nan = refl
not_below_nan (inf s) = refl
not_below_nan (fin s m e) = refl

pub specials : Specials
unfolding exp_of ln_of asinh_of asinh_log powf_of ceil_of sqrt_of lt is_nan neg add mul of_bits
specials = record {
  exp_nan = exp_at_nan;
  exp_infinity = refl;
  exp_minus_infinity = refl;
  ln_nan = refl;
  ln_zero = λ s. refl;
  ln_infinity = refl;
  ln_minus_infinity = refl;
  asinh_nan = refl;
  asinh_zero = asinh_at_zero;
  asinh_infinity = asinh_at_infinity;
  powf_nan_base = λ b. ap exp_of (mul_nan b) ∙ exp_at_nan;
  powf_nan_exponent = λ x. ap exp_of (nan_mul (ln_of x)) ∙ exp_at_nan;
  clamp_nan = λ lo hi. ap (λ (z : Bool). cond z hi nan) (not_below_nan hi);
  clamp_zero = clamp_at_zero;
  max_nan = λ x. (refl, ap (λ (z : Bool). cond (is_nan x || z) nan x) (not_below_nan x) ∙ other x);
  min_nan = λ x. (refl, other x);
  abs_zero = λ s. refl;
  ceil_nan = refl;
}
  where
    other : (x : Float) → cond (is_nan x || false) nan x ≡ x
    other nan = refl
    other (inf s) = refl
    other (fin s m e) = refl
