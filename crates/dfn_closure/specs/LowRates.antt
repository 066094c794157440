-- A step with H by the logarithm at every argument, as it was before H had another form near 0: a step whose two arguments of H are not below 2 ^ -10 in size is that step, its report,
-- cell and refusal alike. Assumes nothing.
use Rattle.std.specs.Prelude.{◌/◌, ◌≡◌, cond, eqb, get_or, Float}
use Rattle.std.proofs.Common.{ap}
use Rattle.std.specs.Float.{nan}
use Rattle.binary64.specs.Operators.{◌⊕◌}
use Rattle.dfn_voltage.specs.LowRates.{voltage_by_log, NoSmallArgument, voltage_kept}
use Rattle.dfn.specs.Checks.{step_refusal}
use Rattle.dfn.specs.declared.DfnSolver.{DfnSolver}
use Rattle.dfn.specs.declared.DfnStep.{DfnStep}
use Rattle.dfn.specs.Answers.{DfnStepAnswer}
use Rattle.dfn.specs.Step.{Moved, moved_by, report_at, report_of, refused_with, followed, advanced, stepped}

abbrev reported_with : DfnSolver → Moved → Float → Float → Float → DfnStep
reported_with d m current dt v = report_at d.config d.c_e m.c_e m.anode.theta m.cathode.theta (d.time_s ⊕ dt) current v

-- a step with this voltage
abbrev pub stepped_with : DfnSolver → Float → Float → Float → DfnStepAnswer
stepped_with d current dt v =
    cond (eqb (step_refusal d current dt) 0) (followed d (moved_by d current dt) (reported_with d (moved_by d current dt) current dt v)) (refused_with (step_refusal d current dt) d)

-- what the voltage is worked out of: both stoichiometries and the electrolyte in the middle of the anode, after the step
abbrev pub neg_theta : DfnSolver → Float → Float → Float
neg_theta d current dt = (moved_by d current dt).anode.theta

abbrev pub pos_theta : DfnSolver → Float → Float → Float
pos_theta d current dt = (moved_by d current dt).cathode.theta

abbrev pub middle : DfnSolver → Float → Float → Float
middle d current dt = get_or (moved_by d current dt).c_e (d.config.n_x_neg / 2) nan

abbrev pub stepped_by_log : DfnSolver → Float → Float → DfnStepAnswer
stepped_by_log d current dt = stepped_with d current dt (voltage_by_log d.params (neg_theta d current dt) (pos_theta d current dt) (middle d current dt) current)

pub step_kept : (d : DfnSolver) (current dt : Float) → NoSmallArgument d.params (neg_theta d current dt) (pos_theta d current dt) (middle d current dt) current
    → stepped d current dt ≡ stepped_by_log d current dt
unfolding stepped advanced report_of
step_kept d current dt h = ap (stepped_with d current dt) (voltage_kept d.params (neg_theta d current dt) (pos_theta d current dt) (middle d current dt) current h)
