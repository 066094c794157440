-- What a build and a step of a pack's cell say: the number of the refusal beside what a refused call shows, or 0 and the value. Definitions only.
use Rattle.std.specs.Prelude.{ℕ, Result, Ok, Err}
use Rattle.refusal.specs.declared.Refusal.{Refusal}
use Rattle.refusal.specs.Refusals.{number_of}
use Rattle.solver_step.specs.declared.SpmReport.{SpmReport}
use Rattle.solver_step.specs.Answers.{SpmReported, reported_by}
use Rattle.pack.specs.declared.PackCell.{PackCell}
use Rattle.pack.specs.declared.PackStep.{PackStep}

pub record PackBuildAnswer : Type 0 where
  pub refusal : ℕ
  pub cell : PackCell

pub record PackStepped : Type 0 where
  pub cell : PackCell
  pub reported : SpmReported

-- the first: what stands beside a refusal
abbrev pub cell_answered : PackCell → Result PackCell Refusal → PackBuildAnswer
cell_answered x (Ok made) = record { refusal = 0; cell = made }
cell_answered x (Err e) = record { refusal = number_of e; cell = x }

-- a cell as a step left it, and what the step answered
abbrev pub left_with : PackCell → Result SpmReport Refusal → PackStepped
left_with x r = record { cell = x; reported = reported_by r }

-- the first: the cell before the step
abbrev pub step_answered : PackCell → Result PackStep Refusal → PackStepped
step_answered x (Ok r) = left_with r.cell (Ok r.report)
step_answered x (Err e) = left_with x (Err e)
