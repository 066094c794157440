-- What the answer of `solve_dense` says, refused or not. Definitions only.
use Rattle.std.specs.Prelude.{ℕ, List, Float, Result, Ok, Err}
use Rattle.refusal.specs.declared.Refusal.{Refusal}
use Rattle.refusal.specs.Refusals.{number_of}
use Rattle.matrix_rows.specs.Places.{zeros}

-- 0 and the solution, its unused places +0; or the number of a refusal and +0 throughout
pub record Solved : Type 0 where
  pub refusal : ℕ
  pub x : List Float

abbrev pub solved_of : Result (List Float) Refusal → Solved
solved_of (Ok x) = record { refusal = 0; x = x }
solved_of (Err r) = record { refusal = number_of r; x = zeros 32 }
