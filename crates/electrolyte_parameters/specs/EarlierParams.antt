-- An electrolyte whose reference temperature is 298.15 K has the earlier test, of seven numbers, and the earlier rates. Assumes nothing.
use Rattle.std.specs.Prelude.{◌≡◌, Bool, true, Float, take}
use Rattle.std.proofs.Math.Bool.{and-true}
use Rattle.std.specs.Float.Ieee.{le, of_bits}
use Rattle.binary64.specs.Operators.{◌⊗◌}
use Rattle.binary64.specs.Literals.{«298·15»}
use Rattle.elementary.specs.Arrhenius.{arrhenius_of}
use Rattle.refusal.specs.Ranges.{in_ranges}
use Rattle.electrolyte_parameters.specs.declared.ElectrolyteParams.{ElectrolyteParams}
use Rattle.electrolyte_parameters.specs.Params.{param_rows, params_fit, at_temperature, diffusivity, conductivity}

-- the test before there was an eighth number
abbrev pub seven_fit : ElectrolyteParams → Bool
seven_fit p = in_ranges true (take 7 (param_rows p))

-- a rate by the fixed 298.15 K
abbrev pub from298 : Float → Float → Float → Float
from298 at_ref ea t = at_ref ⊗ arrhenius_of ea «298·15» t

module _ (p : ElectrolyteParams) (h : p.t_ref ≡ «298·15») where
  pub fits_kept : params_fit p ≡ seven_fit p
  unfolding le of_bits
  fits_kept = rw (h) (and-true (seven_fit p))

  pub diffusivity_kept : (t : Float) → diffusivity p t ≡ from298 p.d_e_ref p.e_a_de t
  unfolding at_temperature
  diffusivity_kept t = rw (h)

  pub conductivity_kept : (t : Float) → conductivity p t ≡ from298 p.kappa_ref p.e_a_kappa t
  unfolding at_temperature
  conductivity_kept t = rw (h)
