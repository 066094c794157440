-- A cycle of phases on the single-particle cell, as turns of a state: each turn is one step of the cell's definition with the current of the phase under way. The phases are one list, written
-- out, of which each phase that ends is dropped. Definitions only.
use Rattle.std.specs.Prelude.{ℕ, ◌+◌, ◌/◌, Bool, true, false, cond, ◌&&◌, List, [], ◌∷◌, eqb, leb, length, Float}
use Rattle.binary64.specs.Operators.{◌⊕◌}
use Rattle.binary64.specs.Literals.{«0·0»}
use Rattle.refusal.specs.Numbers as N
use Rattle.refusal.specs.Ranges.{count_in_range, interval_fits, temperature_fits}
use Rattle.runs.specs.Endings.{ending_of, going_on_of, by_refusal, by_done, by_spent}
use Rattle.runs.specs.Rows.{run_after, rows_after}
use Rattle.solver.specs.declared.SpmSolver.{SpmSolver}
use Rattle.solver.specs.Answers.{SpmStepAnswer}
use Rattle.solver.specs.Cell.{grid_fits, cell_fits}
use Rattle.solver.specs.Step.{stepped}
use Rattle.solver_step.specs.declared.report.SpmState.{SpmState}
use Rattle.solver_step.specs.Report.{no_state}
use Rattle.discharge_run.specs.Discharge.{RunOutcome, row_of, refused_run}
use Rattle.cycle_run.specs.declared.phases.Phase.{Phase}
use Rattle.cycle_run.specs.declared.CycleSettings.{CycleSettings}
use Rattle.cycle_run.specs.Phases.{current_of, phase_over, loads_fit, times_fit, written_out}

abbrev pub cycle_settings : ℕ → ℕ → ℕ → Float → Float → CycleSettings
cycle_settings count repeats budget dt t = record { count = count; repeats = repeats; budget = budget; dt = dt; temp_k = t }

-- ---- where a cycle stands among its phases
-- the phase under way and those to come, and the clock of the one under way
pub record Progress : Type 0 where
  pub phases : List Phase
  pub clock : Float

-- after a step of phase p, with `rest` to come: the clock is raised, and where the phase has ended the next one begins at +0
unfoldable pub progress_after : Float → Phase → List Phase → Float → Bool → Progress
progress_after dt p rest clock cutoff =
    cond (phase_over p cutoff (clock ⊕ dt)) (record { phases = rest; clock = «0·0» }) (record { phases = p ∷ rest; clock = clock ⊕ dt })

-- the last phase has ended
abbrev pub none_left_of : List Phase → Bool
none_left_of [] = true
none_left_of (p ∷ rest) = false

-- ---- the endings
-- after a row, with so many made: done, then spent
unfoldable pub over_after : ℕ → List Phase → ℕ → ℕ
over_after budget left rows = cond (none_left_of left) by_done (cond (leb budget rows) by_spent going_on_of)

-- ---- turns
-- a cycle on its way: the cell, where it stands, the rows so far, what has ended it, a refusal's number, the last report
pub record Cycling : Type 0 where
  pub solver : SpmSolver
  pub progress : Progress
  pub rows : ℕ
  pub over : ℕ
  pub refusal : ℕ
  pub state : SpmState

-- before the first step
unfoldable pub started : List Phase → SpmSolver → Cycling
started left s = record { solver = s; progress = record { phases = left; clock = «0·0» }; rows = 0; over = going_on_of; refusal = 0; state = no_state }

-- a step that is accepted has a row
unfoldable pub accepted : ℕ → Cycling → SpmStepAnswer → Progress → Cycling
accepted budget c t g =
    record { solver = t.solver; progress = g; rows = c.rows + 1; over = over_after budget g.phases (c.rows + 1); refusal = 0; state = t.state }

-- one that is refused has none, and leaves all else as it was
unfoldable pub refused : Cycling → SpmStepAnswer → Cycling
refused c t = record { solver = t.solver; progress = c.progress; rows = c.rows; over = by_refusal; refusal = t.refusal; state = c.state }

unfoldable pub followed : CycleSettings → Cycling → Phase → List Phase → SpmStepAnswer → Cycling
followed g c p rest t =
    cond (eqb t.refusal 0) (accepted g.budget c t (progress_after g.dt p rest c.progress.clock t.state.cutoff)) (refused c t)

-- one step of the cell with the current of the phase under way
unfoldable pub turned_by_of : CycleSettings → Cycling → List Phase → Cycling
turned_by_of g c [] = c
turned_by_of g c (p ∷ rest) = followed g c p rest (stepped c.solver (current_of p) g.dt g.temp_k)

unfoldable pub turned : CycleSettings → Cycling → Cycling
turned g c = turned_by_of g c c.progress.phases

abbrev pub over_of : Cycling → ℕ
over_of c = c.over

abbrev pub last_row_of : Cycling → List Float
last_row_of c = row_of c.state

-- ---- what a cycle gives: how it ended, the count of rows, the cell after them
unfoldable pub finished_cycle : Cycling → RunOutcome
finished_cycle c = record { ended = ending_of c.over c.refusal; rows = c.rows; solver = c.solver }

-- as many turns as the budget has, and the slice that they leave
unfoldable pub all_turns : CycleSettings → Cycling → RunOutcome
all_turns g c = finished_cycle (run_after over_of (turned g) last_row_of g.budget c)

unfoldable pub all_rows : CycleSettings → Cycling → List Float → List Float
all_rows g c l = rows_after over_of (turned g) last_row_of g.budget c l

-- ---- refusals of the whole cycle, before the first step: 1, 10, 2, 3, 4, 5
-- 1 to 8 phases, 1 to 1,000 repeats, a budget of 1 to 100,000 steps
abbrev pub counts_fit : CycleSettings → Bool
counts_fit g = count_in_range g.count 1 8 && count_in_range g.repeats 1 1000 && count_in_range g.budget 1 100000

-- 1, then 10: eight places for each step of the budget
unfoldable pub counts_refusal : CycleSettings → SpmSolver → ℕ → ℕ
counts_refusal g s places =
    N.first_refusal (N.refusal_unless (grid_fits s && counts_fit g) N.grid) (N.refusal_unless (leb g.budget (places / 8)) N.bad_length)

-- every phase is tested, one that is never reached too
unfoldable pub cycle_refusal : List Phase → CycleSettings → SpmSolver → ℕ → ℕ
cycle_refusal l g s places =
    N.first_refusal (counts_refusal g s places)
    (N.first_refusal (N.refusal_unless (cell_fits s) N.sheet)
    (N.first_refusal (N.refusal_unless (loads_fit l g.count) N.load)
    (N.first_refusal (N.refusal_unless (interval_fits g.dt && times_fit l g.count) N.interval) (N.refusal_unless (temperature_fits g.temp_k) N.temperature))))

-- the first `count` phases, `repeats` times
abbrev pub start_of : List Phase → CycleSettings → SpmSolver → Cycling
start_of l g s = started (written_out l g.count g.repeats) s

unfoldable pub cycled : List Phase → CycleSettings → SpmSolver → ℕ → RunOutcome
cycled l g s places = cond (eqb (cycle_refusal l g s places) 0) (all_turns g (start_of l g s)) (refused_run (cycle_refusal l g s places) s)

-- the final content of the lent slice
unfoldable pub cycled_rows : List Phase → CycleSettings → SpmSolver → List Float → List Float
cycled_rows l g s out = cond (eqb (cycle_refusal l g s (length out)) 0) (all_rows g (start_of l g s) out) out
