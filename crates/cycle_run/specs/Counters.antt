-- The same turns by the code's counters: the place of the phase under way and the repeats that are left. Definitions only; `Walk` shows that they walk the list written out.
use Rattle.std.specs.Prelude.{ℕ, ◌+◌, ◌-◌, ◌<◌, ◌≤◌, Bool, cond, List, eqb, ltb, leb, Float}
use Rattle.binary64.specs.Operators.{◌⊕◌}
use Rattle.binary64.specs.Literals.{«0·0»}
use Rattle.runs.specs.Endings.{ending_of, going_on_of, by_refusal, by_done, by_spent}
use Rattle.runs.specs.Rows.{run_after, rows_after}
use Rattle.solver.specs.declared.SpmSolver.{SpmSolver}
use Rattle.solver.specs.Answers.{SpmStepAnswer}
use Rattle.solver.specs.Step.{stepped}
use Rattle.solver_step.specs.Report.{no_state}
use Rattle.discharge_run.specs.Discharge.{RunOutcome, row_of}
use Rattle.cycle_run.specs.declared.phases.Phase.{Phase}
use Rattle.cycle_run.specs.declared.CycleSettings.{CycleSettings}
use Rattle.cycle_run.specs.declared.Position.{Position}
use Rattle.cycle_run.specs.States.{CycleState}
use Rattle.cycle_run.specs.Phases.{phase_at, current_of, phase_over}

-- ---- positions
-- a phase is under way
abbrev pub Inside : CycleSettings → Position → Type 0
Inside g q = (q.place < g.count) × ((g.count ≤ 8) × (1 ≤ q.repeats_left))

abbrev pub first_position : CycleSettings → Position
first_position g = record { place = 0; repeats_left = g.repeats; clock = «0·0» }

-- the next phase begins: at the next place, or at the first of the next repeat
unfoldable pub moved_on : CycleSettings → Position → Position
moved_on g q =
    cond (ltb (q.place + 1) g.count) (record { place = q.place + 1; repeats_left = q.repeats_left; clock = «0·0» })
    (record { place = 0; repeats_left = q.repeats_left - 1; clock = «0·0» })

-- after a step with this cutoff
unfoldable pub next_position : List Phase → CycleSettings → Position → Bool → Position
next_position l g q cutoff =
    cond (phase_over (phase_at l q.place) cutoff (q.clock ⊕ g.dt)) (moved_on g q)
    (record { place = q.place; repeats_left = q.repeats_left; clock = q.clock ⊕ g.dt })

-- after a row: done, then spent
unfoldable pub over_by : CycleSettings → Position → ℕ → ℕ
over_by g q rows = cond (eqb q.repeats_left 0) by_done (cond (leb g.budget rows) by_spent going_on_of)

-- ---- turns
unfoldable pub started_at : CycleSettings → SpmSolver → CycleState
started_at g s = record { solver = s; position = first_position g; rows = 0; over = going_on_of; refusal = 0; state = no_state }

unfoldable pub AcceptedAt : CycleSettings → CycleState → SpmStepAnswer → Position → CycleState
AcceptedAt g c t q = record { solver = t.solver; position = q; rows = c.rows + 1; over = over_by g q (c.rows + 1); refusal = 0; state = t.state }

unfoldable pub refused_at : CycleState → SpmStepAnswer → CycleState
refused_at c t = record { solver = t.solver; position = c.position; rows = c.rows; over = by_refusal; refusal = t.refusal; state = c.state }

unfoldable pub followed_at : List Phase → CycleSettings → CycleState → SpmStepAnswer → CycleState
followed_at l g c t = cond (eqb t.refusal 0) (AcceptedAt g c t (next_position l g c.position t.state.cutoff)) (refused_at c t)

unfoldable pub turned_at : List Phase → CycleSettings → CycleState → CycleState
turned_at l g c = followed_at l g c (stepped c.solver (current_of (phase_at l c.position.place)) g.dt g.temp_k)

abbrev pub over_at : CycleState → ℕ
over_at c = c.over

abbrev pub row_at : CycleState → List Float
row_at c = row_of c.state

-- ---- what they give
unfoldable pub finished_at : CycleState → RunOutcome
finished_at c = record { ended = ending_of c.over c.refusal; rows = c.rows; solver = c.solver }

unfoldable pub all_turns_at : List Phase → CycleSettings → CycleState → RunOutcome
all_turns_at l g c = finished_at (run_after over_at (turned_at l g) row_at g.budget c)

unfoldable pub all_rows_at : List Phase → CycleSettings → CycleState → List Float → List Float
all_rows_at l g c out = rows_after over_at (turned_at l g) row_at g.budget c out
