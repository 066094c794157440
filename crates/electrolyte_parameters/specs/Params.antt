-- The electrolyte's eight numbers: their ranges, the ready ones, and the rates at a temperature. Definitions only.
use Rattle.std.specs.Prelude.{Bool, true, List, [], ◌∷◌, Float}
use Rattle.binary64.specs.Operators.{◌⊗◌}
use Rattle.binary64.specs.Literals.{«0·0», «1e-16», «7·5e-11», «1e-6», «0·364», «1·0», «1·1», «1·5», «4·0», «100·0», «200·0», «298·15», «400·0», «1000·0», «12000·0», «17000·0», «100000·0»}
use Rattle.elementary.specs.Arrhenius.{arrhenius_of}
use Rattle.elementary.specs.Power.{powf_of}
use Rattle.refusal.specs.Ranges.{Row, row, in_ranges}
use Rattle.electrolyte_parameters.specs.declared.ElectrolyteParams.{ElectrolyteParams}

-- ---- ranges
-- each number with its closed range
abbrev pub param_rows : ElectrolyteParams → List Row
param_rows p =
    row p.d_e_ref «1e-16» «1e-6»
    ∷ row p.kappa_ref «1e-6» «100·0»
    ∷ row p.t_plus «0·0» «1·0»
    ∷ row p.bruggeman «0·0» «4·0»
    ∷ row p.c_e_init «1·0» «100000·0»
    ∷ row p.e_a_de «0·0» «100000·0»
    ∷ row p.e_a_kappa «0·0» «100000·0»
    ∷ row p.t_ref «200·0» «400·0»
    ∷ []

abbrev pub params_fit : ElectrolyteParams → Bool
params_fit p = in_ranges true (param_rows p)

-- ---- the ready electrolyte
-- 1 mol/l of LiPF6 in EC and DMC
unfoldable pub lipf6_ec_dmc : ElectrolyteParams
lipf6_ec_dmc = record {
  d_e_ref = «7·5e-11»;
  kappa_ref = «1·1»;
  t_plus = «0·364»;
  bruggeman = «1·5»;
  c_e_init = «1000·0»;
  e_a_de = «17000·0»;
  e_a_kappa = «12000·0»;
  t_ref = «298·15»;
}

-- ---- rates
-- at_ref times the Arrhenius factor from t_ref
unfoldable pub at_temperature : Float → Float → Float → Float → Float
at_temperature at_ref ea t_ref t = at_ref ⊗ arrhenius_of ea t_ref t

abbrev pub diffusivity : ElectrolyteParams → Float → Float
diffusivity p t = at_temperature p.d_e_ref p.e_a_de p.t_ref t

abbrev pub conductivity : ElectrolyteParams → Float → Float
conductivity p t = at_temperature p.kappa_ref p.e_a_kappa p.t_ref t

-- in a medium of the porosity eps: times eps ^ bruggeman
unfoldable pub diffusivity_eff : ElectrolyteParams → Float → Float → Float
diffusivity_eff p eps t = diffusivity p t ⊗ powf_of eps p.bruggeman

unfoldable pub conductivity_eff : ElectrolyteParams → Float → Float → Float
conductivity_eff p eps t = conductivity p t ⊗ powf_of eps p.bruggeman
