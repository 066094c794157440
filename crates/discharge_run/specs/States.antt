-- A run on its way as the definitions see it: the number of what has ended it, 0 while it goes on, and a refusal's number. Definitions only.
use Rattle.std.specs.Prelude.{ℕ, Float}
use Rattle.runs.specs.Endings.{over_number, refusal_number}
use Rattle.solver.specs.declared.SpmSolver.{SpmSolver}
use Rattle.solver_step.specs.declared.report.SpmState.{SpmState}
use Rattle.discharge_run.specs.declared.RunState.{RunState as Running}

pub record RunState : Type 0 where
  pub solver : SpmSolver
  pub clock : Float
  pub rows : ℕ
  pub over : ℕ
  pub refusal : ℕ
  pub state : SpmState

-- of the code's, whose ending has both numbers
abbrev pub state_of : Running → RunState
state_of r = record { solver = r.solver; clock = r.clock; rows = r.rows; over = over_number r.ending; refusal = refusal_number r.ending; state = r.state }
