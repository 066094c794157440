-- The sign and the absolute value, as the library says them. Assumes nothing.
use Rattle.std.proofs.Common.{◌≡◌, false, refl}
use lib.Ieee.{Float, nan, inf, fin}
use Rattle.std.specs.Float.{is_sign_negative, float_with_sign}
use Rattle.binary64.specs.Operators.{negative}
use Rattle.min_max.specs.MinMax.{abs_of}

pub sign_is : (x : Float) → is_sign_negative x ≡ negative x
unfolding is_sign_negative
sign_is nan = refl
sign_is (inf s) = refl
sign_is (fin s m e) = refl

pub abs_is : (x : Float) → float_with_sign false x ≡ abs_of x
unfolding float_with_sign
abs_is nan = refl
abs_is (inf s) = refl
abs_is (fin s m e) = refl
