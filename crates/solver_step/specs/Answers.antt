-- What the answer of a step on lent profiles says, in the terms of docs/REFERENCE.md: the number of the refusal and an empty report, or 0 and the report.
-- Definitions only.
use Rattle.std.specs.Prelude.{ℕ, Result, Ok, Err}
use Rattle.refusal.specs.declared.Refusal.{Refusal}
use Rattle.refusal.specs.Refusals.{number_of}
use Rattle.solver_step.specs.declared.report.SpmState.{SpmState}
use Rattle.solver_step.specs.declared.SpmReport.{SpmReport}
use Rattle.solver_step.specs.Report.{no_state}

pub record SpmReported : Type 0 where
  pub refusal : ℕ
  pub state : SpmState
  pub sub_steps : ℕ

-- a report, or the row that refuses it
abbrev pub reported_by : Result SpmReport Refusal → SpmReported
reported_by (Ok r) = record { refusal = 0; state = r.state; sub_steps = r.sub_steps }
reported_by (Err e) = record { refusal = number_of e; state = no_state; sub_steps = 0 }
