-- What each call of a particle answers: the first number of the table that it meets, or its value; the particle anew or as it was. Definitions, and what a step that is not refused has met. Assumes nothing.
use Rattle.std.specs.Prelude.{ℕ, ◌≡◌, cond, List, eqb, replicate, Float}
use Rattle.binary64.specs.Operators.{◌⊗◌}
use Rattle.binary64.specs.Literals.{«0·0», «1e13»}
use Rattle.refusal.specs.Numbers.{first_refusal, refusal_unless, grid, sheet, load, interval, temperature, not_finite_of, neither_refused}
use Rattle.refusal.specs.Ranges.{load_fits_of, interval_fits, temperature_fits}
use Rattle.refusal.specs.Answers.{Outcome, finite_outcome}
use Rattle.electrode.specs.Sheet.{sheet_fits, diffusivity_at}
use Rattle.electrode.specs.declared.ElectrodeParams.{ElectrodeParams}
use Rattle.diffusion.specs.SubStep.{sub_step}
use Rattle.arrays.specs.Places.{filled}
use Rattle.profile.specs.Places.{finite_profile}
use Rattle.particle.specs.declared.ParticleDiffusion.{ParticleDiffusion}
use Rattle.particle.specs.Answers.{ParticleAnswer}
use Rattle.particle.specs.Checks.{nodes_fit, particle_refusal}
use Rattle.particle.specs.Particle.{with_profile, sub_step_params_of, stable_step, surface_theta, surface_potential, average, average_theta}

abbrev pub particle_answer : ℕ → ParticleDiffusion → ParticleAnswer
particle_answer k p = record { refusal = k; particle = p }

-- ---- new
-- a build checks 1 and 2
unfoldable pub new_refusal : ElectrodeParams → ℕ → ℕ
new_refusal p n = first_refusal (refusal_unless (nodes_fit n) grid) (refusal_unless (sheet_fits p) sheet)

-- all nodes at theta_init * c_s_max
unfoldable pub fresh : ElectrodeParams → ℕ → ParticleDiffusion
fresh p n = record { params = p; n_nodes = n; c_s = filled 64 (p.theta_init ⊗ p.c_s_max) n }

-- the record whose every number is +0 and whose counts are 0, beside a refused build
abbrev pub no_sheet : ElectrodeParams
no_sheet = record {
  electrode_type = 0;
  r_particle = «0·0»;
  d_s_ref = «0·0»;
  c_s_max = «0·0»;
  theta_init = «0·0»;
  thickness = «0·0»;
  epsilon_s = «0·0»;
  area = «0·0»;
  e_a_ds = «0·0»;
  k_bv = «0·0»;
  t_ref = «0·0»;
}

unfoldable pub no_particle : ParticleDiffusion
no_particle = record { params = no_sheet; n_nodes = 0; c_s = replicate 64 «0·0» }

unfoldable pub made : ElectrodeParams → ℕ → ParticleAnswer
made p n = cond (eqb (new_refusal p n) 0) (particle_answer 0 (fresh p n)) (particle_answer (new_refusal p n) no_particle)

-- ---- step
unfoldable pub step_refusal : ParticleDiffusion → Float → Float → Float → ℕ
step_refusal p j dt t =
    first_refusal (particle_refusal p)
    (first_refusal (refusal_unless (load_fits_of j «1e13») load)
    (first_refusal (refusal_unless (interval_fits dt) interval) (refusal_unless (temperature_fits t) temperature)))

pub step_particle : (p : ParticleDiffusion) (j dt t : Float) → step_refusal p j dt t ≡ 0 → particle_refusal p ≡ 0
unfolding step_refusal
step_particle p j dt t h = (neither_refused _ _ h).0

-- the new profile, refused with 8 where it holds a NaN or an infinity
unfoldable pub accepted : ParticleDiffusion → List Float → ParticleAnswer
accepted p c = cond (finite_profile c) (particle_answer 0 (with_profile p c)) (particle_answer not_finite_of p)

-- one sub-step of the length dt
unfoldable pub stepped : ParticleDiffusion → Float → Float → Float → ParticleAnswer
stepped p j dt t =
    cond (eqb (step_refusal p j dt t) 0)
    (accepted p (sub_step (sub_step_params_of p (diffusivity_at p.params t) j dt) p.c_s))
    (particle_answer (step_refusal p j dt t) p)

-- ---- numbers
unfoldable pub dt_stable : ParticleDiffusion → Float → Outcome
dt_stable p t =
    finite_outcome (first_refusal (particle_refusal p) (refusal_unless (temperature_fits t) temperature)) (stable_step p.params p.n_nodes (diffusivity_at p.params t))

unfoldable pub theta_surface : ParticleDiffusion → Outcome
theta_surface p = finite_outcome (particle_refusal p) (surface_theta p)

unfoldable pub theta_avg_of : ParticleDiffusion → Outcome
theta_avg_of p = finite_outcome (particle_refusal p) (average_theta p)

unfoldable pub c_avg_of : ParticleDiffusion → Outcome
c_avg_of p = finite_outcome (particle_refusal p) (average p)

unfoldable pub ocp_surface : ParticleDiffusion → Outcome
ocp_surface p = finite_outcome (particle_refusal p) (surface_potential p)
