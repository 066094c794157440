-- A step with both diffusivities from the fixed 298.15 K, as it was before a sheet had a reference temperature: a step of a cell whose two sheets carry 298.15 K is that step, its
-- report, cell and refusal alike. Assumes nothing.
use Rattle.std.specs.Prelude.{◌≡◌, cond, eqb, Float}
use Rattle.std.proofs.Common.{ap₂}
use Rattle.binary64.specs.Literals.{«298·15»}
use Rattle.electrode.specs.EarlierSheet.{diffusivity_from298, diffusivity_kept}
use Rattle.solver_step.specs.Plans.{plan_by}
use Rattle.solver.specs.declared.SpmSolver.{SpmSolver}
use Rattle.solver.specs.Answers.{SpmStepAnswer}
use Rattle.solver.specs.Step.{input_refusal, current_density, plan_of, refused_step, planned, stepped}

-- a step with these diffusivities
abbrev pub stepped_by_of : SpmSolver → Float → Float → Float → Float → Float → SpmStepAnswer
stepped_by_of s i dt t d_neg_of d_pos_of =
    let p = plan_by s.anode.params s.anode.n_nodes s.cathode.params s.cathode.n_nodes s.config.faraday (current_density s i) dt d_neg_of d_pos_of in
    cond (eqb (input_refusal s i dt t) 0) (planned s p i dt t) (refused_step (input_refusal s i dt t) s)

abbrev pub stepped_from298 : SpmSolver → Float → Float → Float → SpmStepAnswer
stepped_from298 s i dt t = stepped_by_of s i dt t (diffusivity_from298 s.anode.params t) (diffusivity_from298 s.cathode.params t)

pub step_kept :
    (s : SpmSolver) (i dt t : Float) → s.anode.params.t_ref ≡ «298·15» → s.cathode.params.t_ref ≡ «298·15»
    → stepped s i dt t ≡ stepped_from298 s i dt t
unfolding stepped plan_of
step_kept s i dt t a c = ap₂ (stepped_by_of s i dt t) (diffusivity_kept s.anode.params a t) (diffusivity_kept s.cathode.params c t)
