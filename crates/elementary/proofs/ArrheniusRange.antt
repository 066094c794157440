-- The Arrhenius factor of every sheet and temperature in range is finite and above zero: activation energies of at most 1e5 in size, temperatures from 200 to 400. Assumes nothing.
use Prim.Native.Nat.{◌^◌}
use lib.Ieee.{Float, of_bits}
use Rattle.binary64.specs.Operators.{◌⊘◌}
use Rattle.binary64.specs.Range.{Within, Sized}
use Rattle.binary64.proofs.RangeOps.{mul_most, div_most, div_between, sub_alike}
use Rattle.binary64.proofs.RangeTests.{literal}
use Rattle.elementary.specs.Exp.{one}
use Rattle.elementary.specs.Arrhenius.{arrhenius_of, gas_constant}
use Rattle.elementary.proofs.Constants.{at_1}
use Rattle.elementary.proofs.ExpRange.{exp_30}

gas_constant_lem : Within gas_constant 8315 1000 8314 1000
unfolding of_bits
gas_constant_lem = literal gas_constant 8315 1000 8314 1000 tt tt tt tt tt

-- 1 / t, for t from 200 to 400
inverse : {t : Float} → Within t 400 1 200 1 → Within (one ⊘ t) 83887 16777216 41943 16777216
inverse h = div_between at_1 h 83887 16777216 41943 16777216 tt tt tt tt tt

-- an exponent of at most 30.125 in size
pub arrhenius_within : {e r t : Float} → Sized e 100000 1 → Within r 400 1 200 1 → Within t 400 1 200 1 → Within (arrhenius_of e r t) (2 ^ 45) 1 1 (2 ^ 46)
arrhenius_within e r t = exp_30 (mul_most (div_most e gas_constant_lem 12028 1 tt tt tt) (sub_alike (inverse r) (inverse t) 41944 16777216 tt tt tt) 241 8 tt tt)
