-- H by its two forms: from 2 ^ -10 in size on it is the logarithm's, below the Taylor polynomial. Assumes nothing.
use Rattle.std.specs.Prelude.{◌≡◌, refl, Bool, true, false, cond, Float}
use Rattle.std.proofs.Common.{ap}
use Rattle.std.specs.Float.{nan}
use Rattle.std.specs.Float.Ieee.{neg, lt, of_bits}
use Rattle.binary64.specs.Literals.{«0·0009765625»}
use Rattle.elementary.specs.Asinh.{asinh_log, asinh_taylor, is_small, asinh_of}

by_form : (x : Float) (b : Bool) → is_small x ≡ b → asinh_of x ≡ cond b (asinh_taylor x) (asinh_log x)
unfolding asinh_of
by_form x b h = ap (λ (z : Bool). cond z (asinh_taylor x) (asinh_log x)) h

pub asinh_taylor_lem : (x : Float) → is_small x ≡ true → asinh_of x ≡ asinh_taylor x
asinh_taylor_lem x h = by_form x true h

pub asinh_log_lem : (x : Float) → is_small x ≡ false → asinh_of x ≡ asinh_log x
asinh_log_lem x h = by_form x false h

-- 2 ^ -10 itself, of either sign, and a NaN are not small
pub limit_not_small : (is_small «0·0009765625» ≡ false) × (is_small (neg «0·0009765625») ≡ false) × (is_small nan ≡ false)
unfolding lt neg of_bits
limit_not_small = (refl, refl, refl)
