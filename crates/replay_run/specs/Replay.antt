-- A recorded load replayed on the single-particle cell, as turns of a state: turn k is one step of the cell's definition with the numbers of line k. Definitions only.
use Rattle.std.specs.Prelude.{ℕ, ◌+◌, ◌/◌, Bool, false, cond, List, eqb, leb, length, Float}
use Rattle.refusal.specs.Numbers as N
use Rattle.refusal.specs.Ranges.{temperature_fits}
use Rattle.runs.specs.Endings.{ending_of, going_on_of, by_voltage, by_refusal, by_done}
use Rattle.runs.specs.Rows.{run_after, rows_after}
use Rattle.solver.specs.declared.SpmSolver.{SpmSolver}
use Rattle.solver.specs.Answers.{SpmStepAnswer}
use Rattle.solver.specs.Cell.{grid_fits, cell_fits}
use Rattle.solver.specs.Step.{stepped}
use Rattle.solver_step.specs.Report.{no_state}
use Rattle.discharge_run.specs.Discharge.{RunOutcome, row_of, refused_run}
use Rattle.replay_run.specs.Answers.{LoadLine}
use Rattle.replay_run.specs.Answers.{ReplayState}
use Rattle.replay_run.specs.Lines.{line_at, none_left_of}

-- a text has at most 65,536 bytes
abbrev pub text_fits : List ℕ → Bool
text_fits text = leb (length text) 65536

-- ---- the endings
-- after a row, with so many lines read: the voltage, then done
unfoldable pub over_after : List ℕ → Bool → ℕ → ℕ
over_after text cutoff lines = cond cutoff by_voltage (cond (none_left_of text lines) by_done going_on_of)

-- ---- turns
-- a text without a byte is done before the first line
unfoldable pub started : List ℕ → SpmSolver → ReplayState
started text s = record { solver = s; rows = 0; over = over_after text false 0; refusal = 0; state = no_state }

-- a line that is refused leaves the cell as it was
unfoldable pub refused_line : ReplayState → ℕ → ReplayState
refused_line r k = record { solver = r.solver; rows = r.rows; over = by_refusal; refusal = k; state = r.state }

unfoldable pub followed : List ℕ → ReplayState → SpmStepAnswer → ReplayState
followed text r t =
    cond (eqb t.refusal 0)
    (record { solver = t.solver; rows = r.rows + 1; over = over_after text t.state.cutoff (r.rows + 1); refusal = 0; state = t.state })
    (refused_line r t.refusal)

-- 11 where the line is not of its form, else one step of the cell
unfoldable pub line_turned : List ℕ → Float → ReplayState → LoadLine → ReplayState
line_turned text temp r w = cond w.well_formed (followed text r (stepped r.solver w.current_a w.dt temp)) (refused_line r N.line)

-- each row so far took a line, so the next line is that of the count of rows
unfoldable pub turned : List ℕ → Float → ReplayState → ReplayState
turned text temp r = line_turned text temp r (line_at text r.rows)

abbrev pub over_of : ReplayState → ℕ
over_of r = r.over

abbrev pub last_row_of : ReplayState → List Float
last_row_of r = row_of r.state

-- ---- what a replay gives: how it ended, the count of rows, the cell after them
unfoldable pub finished_replay : ReplayState → RunOutcome
finished_replay r = record { ended = ending_of r.over r.refusal; rows = r.rows; solver = r.solver }

-- the turns for which there is room, and the slice that they leave
unfoldable pub all_turns : List ℕ → Float → ReplayState → ℕ → RunOutcome
all_turns text temp r total = finished_replay (run_after over_of (turned text temp) last_row_of total r)

unfoldable pub all_rows : List ℕ → Float → ReplayState → ℕ → List Float → List Float
all_rows text temp r total l = rows_after over_of (turned text temp) last_row_of total r l

-- ---- refusals of the whole replay, before the first line: 12, 1, 10, 2, 5
unfoldable pub replay_refusal : List ℕ → SpmSolver → Float → ℕ → ℕ
replay_refusal text s temp places =
    N.first_refusal (N.refusal_unless (text_fits text) N.file)
    (N.first_refusal (N.refusal_unless (grid_fits s) N.grid)
    (N.first_refusal (N.refusal_unless (leb 8 places) N.bad_length)
    (N.first_refusal (N.refusal_unless (cell_fits s) N.sheet) (N.refusal_unless (temperature_fits temp) N.temperature))))

unfoldable pub replayed : List ℕ → Float → SpmSolver → ℕ → RunOutcome
replayed text temp s places =
    cond (eqb (replay_refusal text s temp places) 0) (all_turns text temp (started text s) (places / 8)) (refused_run (replay_refusal text s temp places) s)

-- the final content of the lent slice
unfoldable pub replayed_rows : List ℕ → Float → SpmSolver → List Float → List Float
replayed_rows text temp s l =
    cond (eqb (replay_refusal text s temp (length l)) 0) (all_rows text temp (started text s) (length l / 8) l) l
