-- A step that is accepted is accepted again by the cell that it leaves. Assumes nothing.
use Rattle.std.specs.Prelude.{◌≡◌, T, Float}
use Rattle.std.proofs.Common.{sym, ap, ◌∙◌}
use Rattle.std.specs.Float.{binary64}
use Rattle.std.specs.Float.Ieee.{fits}
use Rattle.std.specs.Float.Ieee.Fits.{add-fits}
use Rattle.refusal.specs.Numbers.{neither_refused}
use Rattle.solver.specs.declared.SpmSolver.{SpmSolver}
use Rattle.solver.specs.Cell.{cell_refusal}
use Rattle.solver_step.specs.Plans.{plan_refusal}
use Rattle.solver_step.specs.Arguments.{argument_refusal}
use Rattle.solver.specs.Step.{input_refusal, plan_of, stepped}
use Rattle.solver_laws.specs.Closure.{step_passes, step_clock, step_make}
use Rattle.solver_laws.specs.Demand.{same_plan}
use Rattle.solver_laws.specs.Clock.{arguments, both_zero, step_number}

-- ---- the same step once more: the same arguments and the same plan
again_input : (s r : SpmSolver) (i dt t : Float) → input_refusal s i dt t ≡ 0 → cell_refusal r ≡ 0 → input_refusal r i dt t ≡ 0
unfolding input_refusal
again_input s r i dt t h k = both_zero (cell_refusal r) (argument_refusal i dt t) k (arguments s i dt t h)

-- A STEP THAT IS ACCEPTED is accepted again by the cell that it leaves: a run that has made a row is not refused
pub step_again : (s : SpmSolver) (i dt t : Float) → T (fits binary64 s.time_s) → (stepped s i dt t).refusal ≡ 0 → (stepped (stepped s i dt t).solver i dt t).refusal ≡ 0
step_again s i dt t f h =
    let r = (stepped s i dt t).solver in
    let n = neither_refused (input_refusal s i dt t) (plan_refusal (plan_of s i dt t)) (sym (step_number s i dt t f) ∙ h) in
    let g : T (fits binary64 r.time_s) = rw (step_clock s i dt t h) (add-fits binary64 s.time_s dt) in
    let p = same_plan s r (record { current = i; dt = dt; temp = t }) (step_make s i dt t) in
    step_number r i dt t g ∙ both_zero (input_refusal r i dt t) (plan_refusal (plan_of r i dt t)) (again_input s r i dt t n.0 (step_passes s i dt t h)) (ap plan_refusal p ∙ n.1)
