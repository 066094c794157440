-- What each call answers: the first number of the table that it meets, or its value. Definitions only.
use Rattle.std.specs.Prelude.{ℕ, Bool, cond, ◌&&◌, List, [], ◌∷◌, ◌==◌, Float}
use Rattle.refusal.specs.Numbers.{first_refusal, refusal_unless, grid, sheet, load, interval, temperature, not_finite_of}
use Rattle.refusal.specs.Ranges.{load_fits_of, interval_fits, temperature_fits}
use Rattle.refusal.specs.Answers.{Outcome, finite_outcome}
use Rattle.electrolyte.specs.declared.ElectrolyteState.{ElectrolyteState}
use Rattle.electrolyte.specs.Answers.{ElectrolyteAnswer, Counted}
use Rattle.electrolyte_parameters.specs.Params.{params_fit}
use Rattle.arrays.specs.Places.{all_finite, filled}
use Rattle.electrolyte_profile.specs.Places.{profile_fits}
use Rattle.electrolyte_profile.specs.Step.{profile_new}
use Rattle.electrolyte.specs.State.{total, counts_fit, regions_fit, no_state, with_profile, average_of, stable_interval, step_params}
use Rattle.binary64.specs.Literals.{«1e9»}

-- ---- the state
-- a build: 1, then 2
unfoldable pub build_refusal : ElectrolyteState → ℕ
build_refusal e = first_refusal (refusal_unless (counts_fit e) grid) (refusal_unless (params_fit e.params && regions_fit e) sheet)

-- a state handed in: the same, and 2 for its profile
unfoldable pub state_refusal : ElectrolyteState → ℕ
state_refusal e = first_refusal (build_refusal e) (refusal_unless (profile_fits e.c_e (total e)) sheet)

abbrev pub answer : ℕ → ElectrolyteState → ElectrolyteAnswer
answer n e = record { refusal = n; state = e }

-- c_e_init at every node, or the number and the record of zeros
unfoldable pub built : ElectrolyteState → ElectrolyteAnswer
built e = cond (build_refusal e == 0) (answer 0 (with_profile e (filled 96 e.params.c_e_init (total e)))) (answer (build_refusal e) no_state)

-- ---- whole numbers
unfoldable pub n_total_of : ElectrolyteState → Counted
n_total_of e = cond (state_refusal e == 0) (record { refusal = 0; values = total e ∷ [] }) (record { refusal = state_refusal e; values = [] })

-- ---- numbers
unfoldable pub c_avg_of : ElectrolyteState → Outcome
c_avg_of e = finite_outcome (state_refusal e) (average_of e)

unfoldable pub dt_stable : ElectrolyteState → Float → Outcome
dt_stable e t = finite_outcome (first_refusal (state_refusal e) (refusal_unless (temperature_fits t) temperature)) (stable_interval e t)

-- ---- the step
-- a source is at most 1e9 in size
abbrev source_fits : Float → Bool
source_fits j = load_fits_of j «1e9»

-- 1 and 2, then 3, 4, 5
unfoldable pub step_refusal : ElectrolyteState → Float → Float → Float → Float → ℕ
step_refusal e j_neg j_pos dt t =
    first_refusal (state_refusal e)
    (first_refusal (refusal_unless (source_fits j_neg && source_fits j_pos) load)
    (first_refusal (refusal_unless (interval_fits dt) interval) (refusal_unless (temperature_fits t) temperature)))

-- the new profile, or 8 and the state as it was
unfoldable pub accepted : ElectrolyteState → List Float → ElectrolyteAnswer
accepted e c = cond (all_finite c 96) (answer 0 (with_profile e c)) (answer not_finite_of e)

unfoldable pub stepped : ElectrolyteState → Float → Float → Float → Float → ElectrolyteAnswer
stepped e j_neg j_pos dt t =
    cond (step_refusal e j_neg j_pos dt t == 0)
    (accepted e (profile_new (step_params e j_neg j_pos dt t) e.c_e))
    (answer (step_refusal e j_neg j_pos dt t) e)
