-- What each rate answers: the first number of the table that it meets, or its value. Definitions only.
use Rattle.std.specs.Prelude.{ℕ, Bool, ◌&&◌, Float}
use Rattle.refusal.specs.Numbers.{first_refusal, refusal_unless, sheet, temperature}
use Rattle.refusal.specs.Ranges.{in_range, temperature_fits}
use Rattle.refusal.specs.Answers.{Outcome, finite_outcome}
use Rattle.electrolyte_parameters.specs.declared.ElectrolyteParams.{ElectrolyteParams}
use Rattle.electrolyte_parameters.specs.Params.{params_fit, diffusivity, conductivity, diffusivity_eff, conductivity_eff}
use Rattle.binary64.specs.Literals.{«0·01», «1·0»}

-- 2, then 5
unfoldable pub rate_refusal : Bool → Float → ℕ
rate_refusal fits t = first_refusal (refusal_unless fits sheet) (refusal_unless (temperature_fits t) temperature)

-- the parameters, and a porosity in 0.01 to 1
abbrev porous_fit : ElectrolyteParams → Float → Bool
porous_fit p eps = params_fit p && in_range eps «0·01» «1·0»

unfoldable pub d_e_of : ElectrolyteParams → Float → Outcome
d_e_of p t = finite_outcome (rate_refusal (params_fit p) t) (diffusivity p t)

unfoldable pub kappa_call : ElectrolyteParams → Float → Outcome
kappa_call p t = finite_outcome (rate_refusal (params_fit p) t) (conductivity p t)

unfoldable pub d_e_eff_of : ElectrolyteParams → Float → Float → Outcome
d_e_eff_of p eps t = finite_outcome (rate_refusal (porous_fit p eps) t) (diffusivity_eff p eps t)

unfoldable pub kappa_eff_of : ElectrolyteParams → Float → Float → Outcome
kappa_eff_of p eps t = finite_outcome (rate_refusal (porous_fit p eps) t) (conductivity_eff p eps t)
