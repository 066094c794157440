-- A power x ^ b for x from 1/128 to 1 and an exponent of at most 4 in size is finite and above zero: for porosities, and for stoichiometries to 0.5 and 1.5. Assumes nothing.
use Prim.Native.Nat.{◌^◌}
use lib.Ieee.{Float}
use Rattle.binary64.specs.Range.{Within, Sized}
use Rattle.binary64.proofs.RangeOps.{mul_most}
use Rattle.elementary.specs.Power.{powf_of}
use Rattle.elementary.proofs.ExpRange.{exp_22}
use Rattle.elementary.proofs.LnRange.{ln_part}

pub powf_within : {x b : Float} → Within x 1 1 1 128 → Sized b 4 1 → Within (powf_of x b) (2 ^ 33) 1 1 (2 ^ 34)
unfolding powf_of
powf_within w h = exp_22 (mul_most h (ln_part w) 45 2 tt tt)
