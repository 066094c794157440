-- The error of one rounding. For every A from 2 ^ -1022 to 2 ^ 1023 with |Q| ≤ A, Q rounded is finite and within A / 2 ^ 53 of Q: normal and subnormal results alike.
-- Assumes nothing.
use Rattle.std.specs.Prelude.{refl, [], ◌^◌, T, pos, Float}
use Rattle.std.proofs.Common.{arith}
use Rattle.std.specs.Float.Ieee.Scale.{finite}
use Rattle.fraction.specs.Fraction.{Fraction, whole, nat, pow2, frac, ◌-F◌, ◌*F◌, ◌≈F◌, ◌≤F◌, ◌within◌}
use Rattle.binary64.specs.Value.{val}

-- 2 ^ -53
unfoldable pub u : Fraction
u = frac (pos 1) (2 ^ 53) tt

pub u_nn : nat 0 ≤F u
unfolding u whole
u_nn = record { cross = omega arith }

pub u_is : u *F pow2 53 ≈F nat 1
unfolding u whole ◌*F◌
u_is = record { cross = refl }

-- r is finite, and |r - Q| ≤ E
pub record Close (r : Float) (Q E : Fraction) : Type 0 where
  pub fine : T (finite r)
  pub near : val r -F Q within E
