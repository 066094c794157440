-- A step that neither its input nor its plan refuses leads each electrode to a particle that passes the checks. Assumes nothing.
use Rattle.std.specs.Prelude.{◌≡◌, Float}
use Rattle.particle.specs.Checks.{particle_refusal}
use Rattle.solver.specs.declared.SpmSolver.{SpmSolver}
use Rattle.solver_step.specs.Plans.{plan_refusal}
use Rattle.solver.specs.Step.{input_refusal}
use Rattle.solver_laws.specs.Electrodes.{Electrode, flux_in, cell_passed, current_fits_lem}
use Rattle.solver_laws.specs.Closure.{plan, particle_next, moved_passes}
use Rattle.solver_laws.proofs.Electrodes.{flux_range}

module _ (s : SpmSolver) (i dt t : Float) where
  pub electrode_next : input_refusal s i dt t ≡ 0 → plan_refusal (plan s i dt t) ≡ 0 → (e : Electrode) → particle_refusal (particle_next s i dt t e) ≡ 0
  electrode_next h g e = moved_passes s i dt t h g e (flux_in e (plan s i dt t)) (flux_range s (cell_passed s i dt t h) i dt t (current_fits_lem s i dt t h) e)
