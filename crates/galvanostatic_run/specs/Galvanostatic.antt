-- A run as a fold of the step: what stands after k turns, and what the run leaves in the slice. Definitions only.
use Rattle.std.specs.Prelude.{ℕ, ◌+◌, ◌/◌, Bool, cond, List, [], ◌∷◌, eqb, length, replicate, Float}
use Rattle.std.specs.Float.Ieee.{le}
use Rattle.elementary.specs.Exp.{one}
use Rattle.refusal.specs.Numbers as Numbers
use Rattle.refusal.specs.Numbers.{first_refusal, refusal_unless}
use Rattle.refusal.specs.Ranges.{finite}
use Rattle.runs.specs.Endings.{Ended, by_voltage, by_time, by_refusal, ended_by, ending_of}
use Rattle.runs.specs.Rows.{run_after, rows_after}
use Rattle.runs.specs.Lowest.{Room, room_of, room_fits_of, summary}
use Rattle.dfn_parameters.specs.Ranges.{grid_fits}
use Rattle.dfn.specs.Checks.{step_refusal}
use Rattle.dfn.specs.Step.{stepped}
use Rattle.dfn.specs.declared.DfnSolver.{DfnSolver}
use Rattle.dfn.specs.declared.DfnStep.{DfnStep}
use Rattle.dfn.specs.Answers.{DfnStepAnswer}
use Rattle.galvanostatic_run.specs.declared.RunSettings.{RunSettings}
use Rattle.galvanostatic_run.specs.States.{RunState}
use Rattle.galvanostatic_run.specs.declared.DfnRun.{DfnRun}
use Rattle.binary64.specs.Literals.{«0·0»}

-- ---- a row
-- 1 or +0
unfoldable pub flag_of : Bool → Float
flag_of b = cond b one «0·0»

-- the last place is newton_iter, always 1
unfoldable pub row_of : DfnStep → List Float
row_of r =
    r.voltage ∷ r.current ∷ r.time_s ∷ r.theta_neg ∷ r.theta_pos ∷ r.delta_c_e_max ∷ flag_of r.cutoff ∷ one ∷ []

-- ---- a turn
-- the ending that holds after a step: its voltage is outside the limits; the cell's clock has reached the limit; 0 for none
unfoldable pub over_after : Float → DfnStep → ℕ
over_after limit r = cond r.cutoff by_voltage (cond (le limit r.time_s) by_time 0)

-- the run after a step
unfoldable pub followed : RunSettings → RunState → DfnStepAnswer → RunState
followed w s a =
    cond (eqb a.refusal 0)
    (record { cell = a.cell; row = row_of a.report; rows = s.rows + 1; over = over_after w.limit a.report; refusal = 0 })
    (record { cell = a.cell; row = s.row; rows = s.rows; over = by_refusal; refusal = a.refusal })

unfoldable pub turned : RunSettings → RunState → RunState
turned w s = followed w s (stepped s.cell w.current w.dt)

-- ---- k turns
unfoldable pub started : DfnSolver → RunState
started d = record { cell = d; row = replicate 8 «0·0»; rows = 0; over = 0; refusal = 0 }

abbrev pub over_of : RunState → ℕ
over_of s = s.over

abbrev pub last_row_of : RunState → List Float
last_row_of s = s.row

-- ---- the run: how it ended, the count of rows, the cell after them
pub record RunOutcome : Type 0 where
  pub ended : Ended
  pub rows : ℕ
  pub cell : DfnSolver

abbrev pub run_outcome : DfnRun → RunOutcome
run_outcome r = record { ended = ended_by r.ending; rows = r.rows; cell = r.cell }

unfoldable pub finished_run : RunState → RunOutcome
finished_run s = record { ended = ending_of s.over s.refusal; rows = s.rows; cell = s.cell }

-- the turns for which there is room, and the slice that they leave
unfoldable pub all_turns : RunSettings → RunState → ℕ → RunOutcome
all_turns w s total = finished_run (run_after over_of (turned w) last_row_of total s)

unfoldable pub all_rows : RunSettings → RunState → ℕ → List Float → List Float
all_rows w s total l = rows_after over_of (turned w) last_row_of total s l

-- 1, 10, 2, 3, 4, tested before the first step, on slices of so many places
unfoldable pub run_refusal : DfnSolver → RunSettings → Room → ℕ
run_refusal d w room =
    first_refusal (refusal_unless (grid_fits d.config) Numbers.grid)
    (first_refusal (refusal_unless (room_fits_of room) Numbers.bad_length)
    (first_refusal (step_refusal d w.current w.dt) (refusal_unless (finite w.limit) Numbers.interval)))

abbrev pub run_settings : Float → Float → Float → RunSettings
run_settings current dt limit = record { current = current; dt = dt; limit = limit }

-- what the call answers: as many turns as there are whole rows
unfoldable pub galvanostatic : DfnSolver → Float → Float → Float → Room → RunOutcome
galvanostatic d current dt limit room =
    cond (eqb (run_refusal d (run_settings current dt limit) room) 0) (all_turns (run_settings current dt limit) (started d) (room.rows / 8))
    (record { ended = record { ending = by_refusal; refusal = run_refusal d (run_settings current dt limit) room }; rows = 0; cell = d })

-- ---- the final content of the lent slices: the rows, and the summary of as many as were written
unfoldable pub galvanostatic_rows : DfnSolver → Float → Float → Float → List Float → List Float → List Float
galvanostatic_rows d current dt limit rows lowest =
    cond (eqb (run_refusal d (run_settings current dt limit) (room_of (length rows) (length lowest))) 0) (all_rows (run_settings current dt limit) (started d) (length rows / 8) rows) rows

unfoldable pub galvanostatic_lowest : DfnSolver → Float → Float → Float → List Float → List Float → List Float
galvanostatic_lowest d current dt limit rows lowest =
    summary (galvanostatic d current dt limit (room_of (length rows) (length lowest))).rows (galvanostatic_rows d current dt limit rows lowest) lowest
