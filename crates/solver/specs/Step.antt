-- A step of the single-particle cell, in stages: what it refuses before anything is worked out, its plan, the cell after it, its report. Definitions, and
-- what a step that is not refused has met. Assumes nothing.
use Rattle.std.specs.Prelude.{ℕ, ◌≡◌, Bool, cond, eqb, Float}
use Rattle.binary64.specs.Operators.{◌⊕◌, ◌⊘◌}
use Rattle.refusal.specs.Numbers.{first_refusal, not_finite_of, neither_refused}
use Rattle.particle.specs.Particle.{with_profile}
use Rattle.solver_step.specs.declared.plan.Plan.{Plan}
use Rattle.solver_step.specs.Plans.{plan_with, plan_refusal, sub_steps_of}
use Rattle.solver_step.specs.declared.report.SpmState.{SpmState}
use Rattle.solver_step.specs.declared.report.SurfaceState.{SurfaceState}
use Rattle.solver_step.specs.Report.{surface_state, voltage_with, report_at, no_state}
use Rattle.solver_step.specs.Arguments.{argument_refusal}
use Rattle.solver_step.specs.Moves.{profile_after, finite_on}
use Rattle.solver.specs.declared.SpmSolver.{SpmSolver}
use Rattle.solver.specs.Answers.{SpmStepAnswer}
use Rattle.solver.specs.Cell.{cell_refusal}

-- ---- 1 to 5
unfoldable pub input_refusal : SpmSolver → Float → Float → Float → ℕ
input_refusal s i dt t = first_refusal (cell_refusal s) (argument_refusal i dt t)

-- ---- the plan
-- I / area, the anode's
unfoldable pub current_density : SpmSolver → Float → Float
current_density s i = i ⊘ s.anode.params.area

unfoldable pub plan_of : SpmSolver → Float → Float → Float → Plan
plan_of s i dt t =
    plan_with s.anode.params s.anode.n_nodes s.cathode.params s.cathode.n_nodes s.config.faraday (current_density s i) dt t

-- ---- the cell after the step: that many sub-steps of dt / count at each electrode, the clock raised once by dt
unfoldable pub advanced : SpmSolver → Plan → Float → SpmSolver
advanced s p dt = record {
  config = s.config;
  anode = with_profile s.anode (profile_after s.anode p.d_neg p.j_neg dt (sub_steps_of p));
  cathode = with_profile s.cathode (profile_after s.cathode p.d_pos p.j_pos dt (sub_steps_of p));
  time_s = s.time_s ⊕ dt;
}

-- ---- the report, of the cell after the step with the fluxes of the plan
abbrev neg_wall : SpmSolver → Plan → Float → SurfaceState
neg_wall s p t = surface_state s.config s.anode p.j_neg t

abbrev pos_wall : SpmSolver → Plan → Float → SurfaceState
pos_wall s p t = surface_state s.config s.cathode p.j_pos t

unfoldable pub voltage_of : SpmSolver → Plan → Float → Float → Float
voltage_of s p i t = voltage_with s.config (current_density s i) (neg_wall s p t) (pos_wall s p t)

unfoldable pub reported : SpmSolver → Plan → Float → Float → SpmState
reported s p i t = report_at s.config (neg_wall s p t) (pos_wall s p t) i s.time_s (voltage_of s p i t)

-- 8: no NaN and no infinity in the new profiles and the report (the current is the one that was given)
unfoldable pub finite_step : SpmSolver → SpmState → Bool
finite_step s r = finite_on s.anode.c_s s.cathode.c_s r

-- ---- the whole step
abbrev pub refused_step : ℕ → SpmSolver → SpmStepAnswer
refused_step k s = record { refusal = k; state = no_state; sub_steps = 0; solver = s }

-- the cell before, the plan, the cell after, the report
unfoldable pub finished : SpmSolver → Plan → SpmSolver → SpmState → SpmStepAnswer
finished s p after r =
    cond (finite_step after r) (record { refusal = 0; state = r; sub_steps = sub_steps_of p; solver = after }) (refused_step not_finite_of s)

-- by a plan that is not refused, with this report
abbrev pub planned_with : SpmSolver → Plan → Float → SpmState → SpmStepAnswer
planned_with s p dt r = cond (eqb (plan_refusal p) 0) (finished s p (advanced s p dt) r) (refused_step (plan_refusal p) s)

unfoldable pub planned : SpmSolver → Plan → Float → Float → Float → SpmStepAnswer
planned s p i dt t = planned_with s p dt (reported (advanced s p dt) p i t)

unfoldable pub stepped : SpmSolver → Float → Float → Float → SpmStepAnswer
stepped s i dt t =
    cond (eqb (input_refusal s i dt t) 0) (planned s (plan_of s i dt t) i dt t) (refused_step (input_refusal s i dt t) s)

pub input_cell : (s : SpmSolver) (i dt t : Float) → input_refusal s i dt t ≡ 0 → cell_refusal s ≡ 0
unfolding input_refusal
input_cell s i dt t h = (neither_refused _ _ h).0
