-- A recorded load as calls of the solver: the lines in order, what the cell answers to each on what the lines above left, and how a replay then ends. Definitions only.
use Rattle.std.specs.Prelude.{ℕ, zero, suc, ◌+◌, ◌*◌, ◌≤◌, ◌≡◌, Bool, true, false, cond, List, [], ◌∷◌, ◌++◌, leb, length, Float}
use Rattle.refusal.specs.Numbers as N
use Rattle.runs.specs.Endings.{Ended, by_voltage, by_full, by_refusal, by_done}
use Rattle.solver.specs.declared.SpmSolver.{SpmSolver}
use Rattle.solver.specs.Answers.{SpmStepAnswer}
use Rattle.replay_run.specs.Lines.{line_at, none_left_of}
use Rattle.solver_laws.specs.Demand.{Call, answer, cell_after}

-- ---- the lines as calls
-- line k
abbrev pub call_at : List ℕ → Float → ℕ → Call
call_at text temp k = record { current = (line_at text k).current_a; dt = (line_at text k).dt; temp = temp }

-- the first n lines, in order
unfoldable pub calls_of : List ℕ → Float → ℕ → List Call
calls_of text temp zero = []
calls_of text temp (suc n) = calls_of text temp n ++ call_at text temp n ∷ []

-- ---- the endings in the order of their tests: voltage, done, full, else refused
abbrev pub first_ending : Bool → Bool → Bool → ℕ → Ended
first_ending voltage done full k =
    cond voltage (record { ending = by_voltage; refusal = 0 })
    (cond done (record { ending = by_done; refusal = 0 }) (cond full (record { ending = by_full; refusal = 0 }) (record { ending = by_refusal; refusal = k })))

module _ (text : List ℕ) (temp : Float) (s : SpmSolver) where
  -- the solver's own step with line k, on the cell that the lines above left
  abbrev pub line_step : ℕ → SpmStepAnswer
  line_step k = answer (cell_after s (calls_of text temp k)) (call_at text temp k)

  -- what refuses line k: 11 where it is not of its form, else the step's own number
  abbrev pub line_refusal : ℕ → ℕ
  line_refusal k = cond (line_at text k).well_formed (line_step k).refusal N.line

  -- whether the last of n rows cut off
  unfoldable pub cutoff_after : ℕ → Bool
  cutoff_after zero = false
  cutoff_after (suc k) = (line_step k).state.cutoff

  -- how a replay with n rows and room for `most` has ended
  unfoldable pub ended_after : ℕ → ℕ → Ended
  ended_after most n = first_ending (cutoff_after n) (none_left_of text n) (leb most n) (line_refusal n)

  -- a line that has a row: the text has its 34 bytes and they are of the line's form, the row above did not cut off, and the step is accepted
  pub record TakenLine (k : ℕ) : Type 0 where
    pub bytes : k * 34 + 34 ≤ length text
    pub window : cutoff_after k ≡ false
    pub form : (line_at text k).well_formed ≡ true
    pub accepted : (line_step k).refusal ≡ 0
