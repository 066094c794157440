-- A cycle on its way as the definitions see it: the number of what has ended it, 0 while it goes on, and a refusal's number. Definitions only.
use Rattle.std.specs.Prelude.{ℕ}
use Rattle.runs.specs.Endings.{over_number, refusal_number}
use Rattle.solver.specs.declared.SpmSolver.{SpmSolver}
use Rattle.solver_step.specs.declared.report.SpmState.{SpmState}
use Rattle.cycle_run.specs.declared.Position.{Position}
use Rattle.cycle_run.specs.declared.CycleState.{CycleState as Running}

pub record CycleState : Type 0 where
  pub solver : SpmSolver
  pub position : Position
  pub rows : ℕ
  pub over : ℕ
  pub refusal : ℕ
  pub state : SpmState

-- of the code's, whose ending has both numbers
abbrev pub state_of : Running → CycleState
state_of r = record {
  solver = r.solver;
  position = r.position;
  rows = r.rows;
  over = over_number r.ending;
  refusal = refusal_number r.ending;
  state = r.state;
}
