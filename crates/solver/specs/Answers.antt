-- What a build and a step say, in the terms of docs/REFERENCE.md: the number of the refusal beside what a refused call shows, or 0 and the value. Definitions only.
use Rattle.std.specs.Prelude.{ℕ, Result, Ok, Err}
use Rattle.refusal.specs.declared.Refusal.{Refusal}
use Rattle.refusal.specs.Refusals.{number_of}
use Rattle.solver_step.specs.declared.report.SpmState.{SpmState}
use Rattle.solver_step.specs.Report.{no_state}
use Rattle.solver.specs.declared.SpmSolver.{SpmSolver}
use Rattle.solver.specs.declared.SpmStepped.{SpmStepped}

pub record SpmBuildAnswer : Type 0 where
  pub refusal : ℕ
  pub solver : SpmSolver

pub record SpmStepAnswer : Type 0 where
  pub refusal : ℕ
  pub state : SpmState
  pub sub_steps : ℕ
  pub solver : SpmSolver

-- the first: what stands beside a refusal
abbrev pub build_answered : SpmSolver → Result SpmSolver Refusal → SpmBuildAnswer
build_answered s (Ok made) = record { refusal = 0; solver = made }
build_answered s (Err e) = record { refusal = number_of e; solver = s }

-- the first: the cell before the step
abbrev pub step_answered : SpmSolver → Result SpmStepped Refusal → SpmStepAnswer
step_answered s (Ok r) = record { refusal = 0; state = r.state; sub_steps = r.sub_steps; solver = r.solver }
step_answered s (Err e) = record { refusal = number_of e; state = no_state; sub_steps = 0; solver = s }
