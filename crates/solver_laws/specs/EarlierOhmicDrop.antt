-- A step with the drop in the electrolyte times the sign of the current, as it was before charge rows had the ohmic rise: a step at a current whose sign is not negative is that step, its
-- report, cell and refusal alike. Assumes nothing.
use Rattle.std.specs.Prelude.{ℕ, zero, suc, ◌≡◌, refl, false, cond, eqb, Float}
use Rattle.std.proofs.Common.{ap}
use Rattle.std.proofs.Math.Dec.{eqb-suc-zero}
use Rattle.std.specs.Float.{binary64}
use Rattle.std.specs.Float.Ieee.{neg}
use Rattle.std.specs.Float.Ieee.Fits.{mul-fits}
use Rattle.binary64.specs.Operators.{negative}
use Rattle.particle_laws.specs.Nodes.{number}
use Rattle.kinetics.specs.EarlierOhmicDrop.{voltage_by_signum}
use Rattle.kinetics.proofs.EarlierOhmicDrop.{voltage_kept}
use Rattle.solver_step.specs.declared.plan.Plan.{Plan}
use Rattle.solver_step.specs.declared.report.SpmState.{SpmState}
use Rattle.solver_step.specs.declared.report.SurfaceState.{SurfaceState}
use Rattle.solver_step.specs.Report.{surface_state, report_at}
use Rattle.solver.specs.declared.SpmSolver.{SpmSolver}
use Rattle.solver.specs.Answers.{SpmStepAnswer}
use Rattle.solver.specs.Step.{input_refusal, current_density, plan_of, advanced, voltage_of, reported, refused_step, planned_with, planned, stepped}
use Rattle.solver_laws.specs.Electrodes.{current_fits_lem}
use Rattle.solver_laws.specs.Acceptance.{ohmic_drop}

abbrev pub reported_by_signum : SpmSolver → Plan → Float → Float → SpmState
reported_by_signum s p i t =
    let a = surface_state s.config s.anode p.j_neg t in
    let c = surface_state s.config s.cathode p.j_pos t in
    report_at s.config a c i s.time_s (voltage_by_signum a.potential c.potential (neg a.overpotential) (neg c.overpotential) (ohmic_drop s i) i)

abbrev pub stepped_by_signum : SpmSolver → Float → Float → Float → SpmStepAnswer
stepped_by_signum s i dt t =
    let p = plan_of s i dt t in
    cond (eqb (input_refusal s i dt t) 0) (planned_with s p dt (reported_by_signum (advanced s p dt) p i t)) (refused_step (input_refusal s i dt t) s)

pub step_kept : (s : SpmSolver) (i dt t : Float) → negative i ≡ false → stepped s i dt t ≡ stepped_by_signum s i dt t
unfolding stepped planned reported voltage_of
step_kept s i dt t h = go (input_refusal s i dt t) refl
  where
    p : Plan
    p = plan_of s i dt t

    after : SpmSolver
    after = advanced s p dt

    report_kept : input_refusal s i dt t ≡ 0 → reported after p i t ≡ reported_by_signum after p i t
    report_kept e =
        let a : SurfaceState = surface_state after.config after.anode p.j_neg t in
        let c : SurfaceState = surface_state after.config after.cathode p.j_pos t in
        ap (report_at after.config a c i after.time_s)
        (voltage_kept a.potential c.potential (neg a.overpotential) (neg c.overpotential) (ohmic_drop after i) i
        (mul-fits binary64 (current_density after i) after.config.r_electrolyte_ohm_m2) (number i (current_fits_lem s i dt t e).fine) h)

    go : (k : ℕ) → input_refusal s i dt t ≡ k
        → cond (eqb k 0) (planned s p i dt t) (refused_step k s) ≡ cond (eqb k 0) (planned_with s p dt (reported_by_signum after p i t)) (refused_step k s)
    go zero e = ap (planned_with s p dt) (report_kept e)
    go (suc k) e = rw (eqb-suc-zero k) refl
