-- What IEEE 754-2019 asks of a square root r of x: every case, and for x above zero the value of the format that is nearest to the root. Definitions only.
--
-- There are no real numbers here, so nearness is said by squares of fractions, `val` being the exact value of a float. For y < r, r is nearer to the root
-- than y where the root is above their middle, (r + y)² < 4 x. For r < y it is nearer where the root is below it, 4 x < (r + y)². Both are strict: no other
-- value of the format is as near, and so there is never a tie.
use Rattle.std.specs.Prelude.{◌≡◌, Bool, false, not, zero, suc, T, ℤ, Float}
use Rattle.std.specs.Float.{nan, inf, fin, binary64}
use Rattle.std.specs.Float.Ieee.{fits}
use Rattle.std.specs.Float.Ieee.Positive.{positive}
use Rattle.fraction.specs.Fraction.{Fraction, nat, ◌+F◌, ◌*F◌, ◌<F◌}
use Rattle.binary64.specs.Value.{val}

-- finite and not negative. What is below zero is farther from a root than zero is.
abbrev pub natural : Float → Bool
natural nan = false
natural (inf s) = false
natural (fin s m e) = not s

abbrev pub below_zero : Float → Bool
below_zero nan = false
below_zero (inf s) = s
below_zero (fin s zero e) = false
below_zero (fin s (suc m) e) = s

abbrev pub square : Fraction → Fraction
square q = q *F q

-- of all values of the format r is the one nearest to the root of x
pub record Nearest (x r : Float) : Type 0 where
  pub finite : T (natural r)
  pub below : (y : Float) → T (fits binary64 y) → T (natural y) → val y <F val r → square (val r +F val y) <F nat 4 *F val x
  pub above : (y : Float) → T (fits binary64 y) → T (natural y) → val r <F val y → nat 4 *F val x <F square (val r +F val y)

pub record SquareRoot (x r : Float) : Type 0 where
  pub format : T (fits binary64 r)
  pub nearest : T (positive x) → Nearest x r
  pub zero : (s : Bool) (e : ℤ) → x ≡ fin s zero e → r ≡ x
  pub infinity : x ≡ inf false → r ≡ x
  pub negative : T (below_zero x) → r ≡ nan
  pub none : x ≡ nan → r ≡ nan
