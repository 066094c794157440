-- The literals of definitions and program that have no short decimal are theirs, rounded once. Assumes nothing.
use mathlib.Core.Path.{◌≡◌, refl}
use lib.Ieee.{round, size, of_bits}
use Rattle.binary64.specs.Operators.{f64}
use Rattle.binary64.specs.Decimal.{decimal}
use Rattle.elementary.specs.Ln.{ln2}

pub record Literals : Type 0 where
  -- the natural logarithm of 2
  pub ln2_is : ln2 ≡ decimal 69314718055994530941723212145818 32
  -- 2 ^ 64, from which a count is too large
  pub count_limit : f64 0x43f0_0000_0000_0000 ≡ decimal 18446744073709551616 0

pub literals : Literals
unfolding round size of_bits
literals = record { ln2_is = refl; count_limit = refl }
