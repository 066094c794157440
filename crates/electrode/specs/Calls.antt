-- What each call of the sheet says: the first number of the table that it meets, or its value. Definitions only.
use Rattle.std.specs.Prelude.{ℕ, ◌&&◌, Float}
use Rattle.binary64.specs.Operators.{◌⊗◌, ◌⊘◌}
use Rattle.binary64.specs.Literals.{«1e-8», «0·001», «3·0», «3·141592653589793», «4·0»}
use Rattle.refusal.specs.Numbers.{first_refusal, refusal_unless, sheet, temperature}
use Rattle.refusal.specs.Ranges.{in_range, finite, temperature_fits}
use Rattle.refusal.specs.Answers.{Outcome, finite_outcome}
use Rattle.electrode.specs.declared.ElectrodeParams.{ElectrodeParams}
use Rattle.electrode.specs.Sheet.{sheet_fits, diffusivity_at, specific_area}
use Rattle.electrode.specs.Curves.{open_circuit, open_circuit_slope}

-- the sheet alone
unfoldable pub sheet_refusal : ElectrodeParams → ℕ
sheet_refusal p = refusal_unless (sheet_fits p) sheet

-- the sheet, and a stoichiometry that may be any finite number
unfoldable pub theta_refusal : ElectrodeParams → Float → ℕ
theta_refusal p theta = refusal_unless (sheet_fits p && finite theta) sheet

unfoldable pub d_s_of : ElectrodeParams → Float → Outcome
d_s_of p t = finite_outcome (first_refusal (sheet_refusal p) (refusal_unless (temperature_fits t) temperature)) (diffusivity_at p t)

unfoldable pub specific_area_call : ElectrodeParams → Outcome
specific_area_call p = finite_outcome (sheet_refusal p) (specific_area p)

unfoldable pub ocp_call : ElectrodeParams → Float → Outcome
ocp_call p theta = finite_outcome (theta_refusal p theta) (open_circuit p theta)

unfoldable pub slope_call : ElectrodeParams → Float → Outcome
slope_call p theta = finite_outcome (theta_refusal p theta) (open_circuit_slope p theta)

-- 4 / 3 * pi * r * r * r, r in r_particle's range
unfoldable pub volume_call : Float → Outcome
volume_call r =
    finite_outcome (refusal_unless (in_range r «1e-8» «0·001») sheet)
    («4·0» ⊘ «3·0» ⊗ «3·141592653589793» ⊗ r ⊗ r ⊗ r)
