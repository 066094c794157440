-- What a build and a step answer, in the terms of docs/REFERENCE.md: the number of the refusal and what stands beside it, or 0 and the values. Definitions only.
use Rattle.std.specs.Prelude.{ℕ, Result, Ok, Err}
use Rattle.refusal.specs.declared.Refusal.{Refusal}
use Rattle.refusal.specs.Refusals.{number_of}
use Rattle.dfn.specs.declared.DfnSolver.{DfnSolver}
use Rattle.dfn.specs.declared.DfnStep.{DfnStep}
use Rattle.dfn.specs.declared.DfnStepped.{DfnStepped}

-- 0 and a new cell, or the number of the refusal
pub record DfnBuildAnswer : Type 0 where
  pub refusal : ℕ
  pub cell : DfnSolver

-- 0 and the report; or the number of the refusal and a report of zeros
pub record DfnReported : Type 0 where
  pub refusal : ℕ
  pub report : DfnStep

-- 0, the report and the new cell; or the number of the refusal, a report of zeros and the cell as it was
pub record DfnStepAnswer : Type 0 where
  pub refusal : ℕ
  pub report : DfnStep
  pub cell : DfnSolver

-- a build's result; the first is the cell beside a refusal
abbrev pub build_answered : DfnSolver → Result DfnSolver Refusal → DfnBuildAnswer
build_answered none (Ok d) = record { refusal = 0; cell = d }
build_answered none (Err e) = record { refusal = number_of e; cell = none }

-- the result of a step in place; the first is the report beside a refusal
abbrev pub reported_by : DfnStep → Result DfnStep Refusal → DfnReported
reported_by none (Ok r) = record { refusal = 0; report = r }
reported_by none (Err e) = record { refusal = number_of e; report = none }

-- a step's result; the first two are the report and the cell beside a refusal
abbrev pub step_answered : DfnStep → DfnSolver → Result DfnStepped Refusal → DfnStepAnswer
step_answered none d (Ok s) = record { refusal = 0; report = s.report; cell = s.cell }
step_answered none d (Err e) = record { refusal = number_of e; report = none; cell = d }
