-- A step with H by the logarithm at every argument, as it was before H had another form near 0: a step whose two arguments of H are not below 2 ^ -10 in size is that step, its report,
-- cell and refusal alike. Assumes nothing.
use Rattle.std.specs.Prelude.{◌≡◌, false, cond, eqb, Float}
use Rattle.std.proofs.Common.{ap₂}
use Rattle.elementary.specs.Asinh.{is_small}
use Rattle.kinetics.specs.Kinetics.{overpotential_argument}
use Rattle.kinetics.specs.LowRates.{overpotential_by_log, overpotential_kept}
use Rattle.solver_step.specs.declared.report.SpmState.{SpmState}
use Rattle.solver_step.specs.Report.{surface_with, report_with}
use Rattle.solver.specs.declared.SpmSolver.{SpmSolver}
use Rattle.solver.specs.Answers.{SpmStepAnswer}
use Rattle.solver.specs.Step.{input_refusal, current_density, plan_of, advanced, voltage_of, reported, refused_step, planned_with, planned, stepped}

abbrev reported_with : SpmSolver → Float → Float → Float → SpmState
reported_with s i eta_neg eta_pos =
    report_with s.config (current_density s i) (surface_with s.anode eta_neg) (surface_with s.cathode eta_pos) i s.time_s

-- a step with these overpotentials at its end
abbrev pub stepped_with : SpmSolver → Float → Float → Float → Float → Float → SpmStepAnswer
stepped_with s i dt t eta_neg eta_pos =
    let p = plan_of s i dt t in
    cond (eqb (input_refusal s i dt t) 0) (planned_with s p dt (reported_with (advanced s p dt) i eta_neg eta_pos)) (refused_step (input_refusal s i dt t) s)

-- both particles after the sub-steps
abbrev pub after_sub_steps : SpmSolver → Float → Float → Float → SpmSolver
after_sub_steps s i dt t = advanced s (plan_of s i dt t) dt

abbrev pub stepped_by_log : SpmSolver → Float → Float → Float → SpmStepAnswer
stepped_by_log s i dt t =
    stepped_with s i dt t (overpotential_by_log s.config (plan_of s i dt t).j_neg (after_sub_steps s i dt t).anode t)
    (overpotential_by_log s.config (plan_of s i dt t).j_pos (after_sub_steps s i dt t).cathode t)

-- at neither electrode is what H is taken of below 2 ^ -10 in size
pub record NoSmallArgument (s : SpmSolver) (i dt t : Float) : Type 0 where
  pub anode : is_small (overpotential_argument (plan_of s i dt t).j_neg (after_sub_steps s i dt t).anode) ≡ false
  pub cathode : is_small (overpotential_argument (plan_of s i dt t).j_pos (after_sub_steps s i dt t).cathode) ≡ false

pub step_kept : (s : SpmSolver) (i dt t : Float) → NoSmallArgument s i dt t → stepped s i dt t ≡ stepped_by_log s i dt t
unfolding stepped planned advanced reported voltage_of
step_kept s i dt t h =
    let p = plan_of s i dt t in
    let after = after_sub_steps s i dt t in
    ap₂ (stepped_with s i dt t) (overpotential_kept s.config p.j_neg after.anode t h.anode) (overpotential_kept s.config p.j_pos after.cathode t h.cathode)
