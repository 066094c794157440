-- The code's answers and its state as the definitions see them: a line with whether it is well formed, a replay with the number of what has ended it, 0 while it goes on, and a
-- refusal's number. Definitions only.
use Rattle.std.specs.Prelude.{ℕ, Bool, true, false, Float, Result, Ok, Err}
use Rattle.runs.specs.Endings.{over_number, refusal_number}
use Rattle.solver.specs.declared.SpmSolver.{SpmSolver}
use Rattle.solver_step.specs.declared.report.SpmState.{SpmState}
use Rattle.replay_run.specs.declared.ReplayState.{ReplayState as Replaying}
use Rattle.replay_run.specs.declared.lines.LoadLine.{LoadLine as Numbers}

-- the numbers of a line, and whether the text has one there
pub record LoadLine : Type 0 where
  pub well_formed : Bool
  pub dt : Float
  pub current_a : Float

-- of the code's, which a line that is not well formed is refused with
abbrev pub line_answered : Result Numbers Numbers → LoadLine
line_answered (Ok w) = record { well_formed = true; dt = w.dt; current_a = w.current_a }
line_answered (Err w) = record { well_formed = false; dt = w.dt; current_a = w.current_a }

pub record ReplayState : Type 0 where
  pub solver : SpmSolver
  pub rows : ℕ
  pub over : ℕ
  pub refusal : ℕ
  pub state : SpmState

-- of the code's, whose ending has both numbers
abbrev pub state_of : Replaying → ReplayState
state_of r = record { solver = r.solver; rows = r.rows; over = over_number r.ending; refusal = refusal_number r.ending; state = r.state }
