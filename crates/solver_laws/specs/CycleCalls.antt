-- A cycle of phases as calls of the solver: the call of each row, by the phase then under way, what the cell answers to it on what the rows before left, and how a cycle then ends.
-- Definitions only.
use Rattle.std.specs.Prelude.{ℕ, zero, suc, ◌<◌, ◌≡◌, Bool, false, cond, List, [], ◌∷◌, ◌++◌, leb}
use Rattle.binary64.specs.Literals.{«0·0»}
use Rattle.runs.specs.Endings.{Ended, by_refusal, by_done, by_spent}
use Rattle.solver.specs.declared.SpmSolver.{SpmSolver}
use Rattle.solver.specs.Answers.{SpmStepAnswer}
use Rattle.cycle_run.specs.declared.phases.Phase.{Phase}
use Rattle.cycle_run.specs.declared.CycleSettings.{CycleSettings}
use Rattle.cycle_run.specs.Phases.{phase_at, current_of, written_out}
use Rattle.cycle_run.specs.Cycle.{Progress, progress_after, none_left_of}
use Rattle.solver_laws.specs.Demand.{Call, answer, cell_after}

-- ---- the call of a phase, the same for each of its rows
abbrev pub call_of : CycleSettings → Phase → Call
call_of g p = record { current = current_of p; dt = g.dt; temp = g.temp_k }

-- a call of one of the first `count` phases
pub record OfPhase (l : List Phase) (g : CycleSettings) (q : Call) : Type 0 where
  pub place : ℕ
  pub meant : place < g.count
  pub same : q ≡ call_of g (phase_at l place)

-- ---- the rows in order
-- the calls of some rows, and where the cycle stands among its phases after them
pub record Made : Type 0 where
  pub calls : List Call
  pub progress : Progress

-- the endings in the order of their tests: done, spent, else refused
abbrev pub first_ending : Bool → Bool → ℕ → Ended
first_ending done spent k =
    cond done (record { ending = by_done; refusal = 0 }) (cond spent (record { ending = by_spent; refusal = 0 }) (record { ending = by_refusal; refusal = k }))

module _ (l : List Phase) (g : CycleSettings) (s : SpmSolver) where
  -- the solver's own step with a phase, on the cell that these calls left
  abbrev pub step_after : List Call → Phase → SpmStepAnswer
  step_after qs p = answer (cell_after s qs) (call_of g p)

  -- one row more, of the first of the phases that are left; none where none is left
  unfoldable pub made_next : Made → List Phase → Made
  made_next m [] = m
  made_next m (p ∷ rest) =
      record { calls = m.calls ++ call_of g p ∷ []; progress = progress_after g.dt p rest m.progress.clock (step_after m.calls p).state.cutoff }

  -- the first n rows
  unfoldable pub made_by : ℕ → Made
  made_by zero = record { calls = []; progress = record { phases = written_out l g.count g.repeats; clock = «0·0» } }
  made_by (suc n) = made_next (made_by n) (made_by n).progress.phases

  abbrev pub calls_of : ℕ → List Call
  calls_of n = (made_by n).calls

  -- the phases that are left after n rows, the one under way first
  abbrev pub phases_left : ℕ → List Phase
  phases_left n = (made_by n).progress.phases

  -- the solver's own step with the phase then under way, on the cell that the first n rows left
  abbrev pub cycle_step : ℕ → SpmStepAnswer
  cycle_step n = step_after (calls_of n) (phase_at (phases_left n) 0)

  -- how a cycle with n rows has ended
  unfoldable pub ended_after : ℕ → Ended
  ended_after n = first_ending (none_left_of (phases_left n)) (leb g.budget n) (cycle_step n).refusal

  -- a row: a phase is left before it, and its step is accepted
  pub record TakenRow (k : ℕ) : Type 0 where
    pub left : none_left_of (phases_left k) ≡ false
    pub accepted : (cycle_step k).refusal ≡ 0
