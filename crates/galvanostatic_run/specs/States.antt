-- A run on its way as the definitions see it: 0 while it goes on, else the number of its ending, and a refusal's number. Definitions only.
use Rattle.std.specs.Prelude.{ℕ, List, Float}
use Rattle.runs.specs.Endings.{over_number, refusal_number}
use Rattle.dfn.specs.declared.DfnSolver.{DfnSolver}
use Rattle.galvanostatic_run.specs.declared.RunState.{RunState as Running}

pub record RunState : Type 0 where
  pub cell : DfnSolver
  pub row : List Float
  pub rows : ℕ
  pub over : ℕ
  pub refusal : ℕ

-- of the code's, whose ending has both numbers
abbrev pub state_of : Running → RunState
state_of r = record { cell = r.cell; row = r.row; rows = r.rows; over = over_number r.ending; refusal = refusal_number r.ending }
