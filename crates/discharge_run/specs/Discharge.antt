-- A constant-current run of the single-particle cell, as turns of a state: each turn is one step of the cell's definition. Definitions only.
use Rattle.std.specs.Prelude.{ℕ, ◌+◌, ◌/◌, Bool, false, cond, not, ◌&&◌, List, [], ◌∷◌, eqb, length, Float}
use Rattle.std.specs.Float.Ieee.{lt}
use Rattle.binary64.specs.Operators.{◌⊕◌}
use Rattle.binary64.specs.Literals.{«0·0», «1·0», «1e6»}
use Rattle.refusal.specs.Numbers as N
use Rattle.refusal.specs.Ranges.{finite, load_fits_of, interval_fits, temperature_fits}
use Rattle.runs.specs.Endings.{Ended, ended_by, ending_of, by_refusal}
use Rattle.runs.specs.Rows.{run_after, rows_after}
use Rattle.runs.specs.Lowest.{Room, room_of, room_fits_of, summary}
use Rattle.solver.specs.declared.SpmSolver.{SpmSolver}
use Rattle.solver_step.specs.declared.report.SpmState.{SpmState}
use Rattle.solver_step.specs.Report.{no_state}
use Rattle.solver.specs.Answers.{SpmStepAnswer}
use Rattle.solver.specs.Cell.{grid_fits, cell_fits}
use Rattle.solver.specs.Step.{stepped}
use Rattle.discharge_run.specs.declared.RunSettings.{RunSettings}
use Rattle.discharge_run.specs.States.{RunState}
use Rattle.discharge_run.specs.declared.CellRun.{CellRun}

abbrev pub run_settings : Float → Float → Float → Float → RunSettings
run_settings i dt t limit = record { current_a = i; dt = dt; temp_k = t; max_time_s = limit }

-- ---- the endings
-- the run's own clock is not below the limit
abbrev pub time_over : RunSettings → Float → Bool
time_over w clock = not (lt clock w.max_time_s)

-- after a row: the voltage, then the time
unfoldable pub over_after : RunSettings → Bool → Float → ℕ
over_after w cutoff clock = cond cutoff 1 (cond (time_over w clock) 2 0)

-- ---- turns
-- the time is tested before the first step too
unfoldable pub started : RunSettings → SpmSolver → RunState
started w s = record { solver = s; clock = «0·0»; rows = 0; over = over_after w false «0·0»; refusal = 0; state = no_state }

unfoldable pub followed : RunSettings → RunState → SpmStepAnswer → RunState
followed w r t =
    cond (eqb t.refusal 0)
    (record {
      solver = t.solver;
      clock = r.clock ⊕ w.dt;
      rows = r.rows + 1;
      over = over_after w t.state.cutoff (r.clock ⊕ w.dt);
      refusal = 0;
      state = t.state;
    })
    (record { solver = t.solver; clock = r.clock; rows = r.rows; over = 4; refusal = t.refusal; state = r.state })

-- one step of the cell
unfoldable pub turned : RunSettings → RunState → RunState
turned w r = followed w r (stepped r.solver w.current_a w.dt w.temp_k)

-- the fields of the report, the cutoff as 1 or 0
unfoldable pub row_of : SpmState → List Float
row_of s =
    s.voltage ∷ s.current ∷ s.theta_neg ∷ s.theta_pos ∷ s.theta_neg_avg ∷ s.theta_pos_avg ∷ s.time_s
    ∷ cond s.cutoff «1·0» «0·0» ∷ []

abbrev pub over_of : RunState → ℕ
over_of r = r.over

abbrev pub last_row_of : RunState → List Float
last_row_of r = row_of r.state

-- ---- what a run gives: how it ended, the count of rows, the cell after them
pub record RunOutcome : Type 0 where
  pub ended : Ended
  pub rows : ℕ
  pub solver : SpmSolver

abbrev pub run_outcome : CellRun → RunOutcome
run_outcome r = record { ended = ended_by r.ending; rows = r.rows; solver = r.solver }

unfoldable pub finished_run : RunState → RunOutcome
finished_run r = record { ended = ending_of r.over r.refusal; rows = r.rows; solver = r.solver }

-- the turns for which there is room, and the slice that they leave
unfoldable pub all_turns : RunSettings → RunState → ℕ → RunOutcome
all_turns w r total = finished_run (run_after over_of (turned w) last_row_of total r)

unfoldable pub all_rows : RunSettings → RunState → ℕ → List Float → List Float
all_rows w r total l = rows_after over_of (turned w) last_row_of total r l

-- ---- refusals of the whole run on slices of so many places, before the first step even if none is due
unfoldable pub run_refusal : RunSettings → SpmSolver → Room → ℕ
run_refusal w s room =
    N.first_refusal (N.refusal_unless (grid_fits s) N.grid)
    (N.first_refusal (N.refusal_unless (room_fits_of room) N.bad_length)
    (N.first_refusal (N.refusal_unless (cell_fits s) N.sheet)
    (N.first_refusal (N.refusal_unless (load_fits_of w.current_a «1e6») N.load)
    (N.first_refusal (N.refusal_unless (interval_fits w.dt && finite w.max_time_s) N.interval)
    (N.refusal_unless (temperature_fits w.temp_k) N.temperature)))))

abbrev pub refused_run : ℕ → SpmSolver → RunOutcome
refused_run k s = record { ended = record { ending = by_refusal; refusal = k }; rows = 0; solver = s }

unfoldable pub discharged : RunSettings → SpmSolver → Room → RunOutcome
discharged w s room = cond (eqb (run_refusal w s room) 0) (all_turns w (started w s) (room.rows / 8)) (refused_run (run_refusal w s room) s)

-- ---- the final content of the lent slices: the rows, and the summary of as many as were written
unfoldable pub discharged_rows : RunSettings → SpmSolver → List Float → List Float → List Float
discharged_rows w s rows lowest = cond (eqb (run_refusal w s (room_of (length rows) (length lowest))) 0) (all_rows w (started w s) (length rows / 8) rows) rows

unfoldable pub discharged_lowest : RunSettings → SpmSolver → List Float → List Float → List Float
discharged_lowest w s rows lowest = summary (discharged w s (room_of (length rows) (length lowest))).rows (discharged_rows w s rows lowest) lowest
