-- What is worked out from a particle that fits. Definitions, and the average by its two sums. Assumes nothing.
use Rattle.std.specs.Prelude.{ℕ, ◌-◌, ◌≡◌, cond, List, Float}
use Rattle.std.proofs.Common.{ap, sym, ◌∙◌}
use Rattle.std.specs.Float.Ieee.{lt}
use Rattle.binary64.specs.Operators.{◌⊗◌, ◌⊘◌, count}
use Rattle.binary64.specs.Literals.{«1e-30», «0·5», «3·0»}
use Rattle.arrays.specs.Places.{at}
use Rattle.profile.specs.Weights.{shares, content}
use Rattle.profile.specs.Sums.{sums_after, sums_are}
use Rattle.profile.specs.declared.Sums.{Sums}
use Rattle.diffusion.specs.SubStep.{SubStepParams}
use Rattle.electrode.specs.declared.ElectrodeParams.{ElectrodeParams}
use Rattle.electrode.specs.Curves.{open_circuit}
use Rattle.particle.specs.declared.ParticleDiffusion.{ParticleDiffusion}

abbrev pub particle_of : ElectrodeParams → ℕ → List Float → ParticleDiffusion
particle_of e n c = record { params = e; n_nodes = n; c_s = c }

-- r_particle / (n - 1)
unfoldable pub spacing : ElectrodeParams → ℕ → Float
spacing e n = e.r_particle ⊘ count (n - 1)

abbrev pub place_of : ParticleDiffusion → ℕ → Float
place_of p i = at p.c_s i

abbrev pub with_profile : ParticleDiffusion → List Float → ParticleDiffusion
with_profile p c = particle_of p.params p.n_nodes c

-- what a sub-step of the length dt works with, by a diffusivity and a flux
abbrev pub sub_step_params_of : ParticleDiffusion → Float → Float → Float → SubStepParams
sub_step_params_of p ds j dt = record { n = p.n_nodes; dr = spacing p.params p.n_nodes; d_s = ds; c_max = p.params.c_s_max; j_n = j; dt = dt }

-- c_s[n - 1] / c_s_max
unfoldable pub surface_theta : ParticleDiffusion → Float
surface_theta p = place_of p (p.n_nodes - 1) ⊘ p.params.c_s_max

-- the open-circuit potential at the surface
unfoldable pub surface_potential : ParticleDiffusion → Float
surface_potential p = open_circuit p.params (surface_theta p)

-- 0.5 * dr * dr / d_s
unfoldable pub stable_step : ElectrodeParams → ℕ → Float → Float
stable_step e n ds = «0·5» ⊗ spacing e n ⊗ spacing e n ⊘ ds

-- ---- the average over the volume
-- 3 * sum / (R * R * R) * dr / 3; the centre's value where the shares add up to less than 1e-30
abbrev averaged : ParticleDiffusion → Float → Float → Float
averaged p s c =
    let r = p.params.r_particle in
    let dr = spacing p.params p.n_nodes in
    cond (lt s «1e-30») (place_of p 0) («3·0» ⊗ c ⊘ (r ⊗ r ⊗ r) ⊗ dr ⊘ «3·0»)

unfoldable pub average : ParticleDiffusion → Float
average p =
    let n = p.n_nodes in
    let dr = spacing p.params n in
    averaged p (shares n dr n) (content n dr (place_of p) n)

pub average_by : (p : ParticleDiffusion) (s : Sums) → s ≡ sums_after p.c_s p.n_nodes (spacing p.params p.n_nodes) p.n_nodes
    → average p ≡ averaged p s.shares s.content
unfolding average
average_by p s e = sym (ap (λ (t : Sums). averaged p t.shares t.content) (e ∙ sums_are p.c_s p.n_nodes (spacing p.params p.n_nodes) p.n_nodes))

unfoldable pub average_theta : ParticleDiffusion → Float
average_theta p = average p ⊘ p.params.c_s_max
