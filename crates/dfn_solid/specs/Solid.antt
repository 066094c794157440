-- The particles of one electrode after a step, node by node from the old nodes. Definitions only.
use Rattle.std.specs.Prelude.{ℕ, zero, suc, ◌+◌, ◌-◌, ◌*◌, cond, ◌&&◌, List, replicate, ◌==◌, nat_lt, Float}
use Rattle.binary64.specs.Operators.{◌⊕◌, ◌⊖◌, ◌⊗◌, ◌⊘◌, count}
use Rattle.binary64.specs.Literals.{«0·0», «1e-30», «0·001», «0·3», «0·5»}
use Rattle.elementary.specs.Exp.{one}
use Rattle.min_max.specs.MinMax.{clamp_of, max_of}
use Rattle.iterate.specs.Iterate.{first_by}
use Rattle.array_update.specs.ArrayUpdate.{places_by}
use Rattle.refusal.specs.Numbers.{refusal_unless, not_finite_of}
use Rattle.refusal.specs.Ranges.{finite}
use Rattle.arrays.specs.Places.{at, all_finite}
use Rattle.dfn_solid.specs.declared.ParticleParams.{ParticleParams}
use Rattle.dfn_solid.specs.Answers.{SolidUpdate}

abbrev half : Float
half = «0·5»

-- c / max(c_max, 1e-3) - 0.5
abbrev from_middle : ParticleParams → Float → Float
from_middle v c = c ⊘ max_of v.c_max «0·001» ⊖ half

-- d_ref * (1 + 0.3 * x * x)
abbrev pub d_solid : ParticleParams → Float → Float
d_solid v c = v.d_ref ⊗ (one ⊕ «0·3» ⊗ from_middle v c ⊗ from_middle v c)

-- the diffusivities at the first n places
unfoldable pub d_solids : ParticleParams → List Float → ℕ → List Float
d_solids v c n = first_by n (λ k. d_solid v (at c k)) (replicate 512 «0·0»)

module _ (v : ParticleParams) (c d : List Float) where
  -- r = i * dr, r_plus = r + 0.5 * dr, r_minus = max(r - 0.5 * dr, 0)
  abbrev radius : ℕ → Float
  radius i = count i ⊗ v.dr

  abbrev above : ℕ → Float
  above i = radius i ⊕ half ⊗ v.dr

  abbrev below : ℕ → Float
  below i = max_of (radius i ⊖ half ⊗ v.dr) «0·0»

  -- r_plus^2 * 0.5 * (d + d_plus) * (c_plus - c) / dr
  abbrev flux_out : ℕ → ℕ → Float
  flux_out k i = above i ⊗ above i ⊗ half ⊗ (at d k ⊕ at d (k + 1)) ⊗ (at c (k + 1) ⊖ at c k) ⊘ v.dr

  -- r_minus^2 * 0.5 * (d_minus + d) * (c - c_minus) / dr
  abbrev flux_in : ℕ → ℕ → Float
  flux_in k i = below i ⊗ below i ⊗ half ⊗ (at d (k - 1) ⊕ at d k) ⊗ (at c k ⊖ at c (k - 1)) ⊘ v.dr

  -- the place k, which is node i: c + dt / (r * r * dr) * (flux_out - flux_in)
  unfoldable pub inner_with : ℕ → ℕ → Float
  inner_with k i = at c k ⊕ v.dt ⊘ (radius i ⊗ radius i ⊗ v.dr) ⊗ (flux_out k i ⊖ flux_in k i)

  -- c - dt * d * (j / max(d, 1e-30)) / dr
  unfoldable pub surface_with : ℕ → Float
  surface_with k = at c k ⊖ v.dt ⊗ at d k ⊗ (v.flux ⊘ max_of (at d k) «1e-30») ⊘ v.dr

  -- node 0 of the particle at `base` takes the new value of node 1; with two nodes that is the surface, which still has its old one
  unfoldable pub centre_with : ℕ → Float
  centre_with base = cond (v.n == 2) (at c (base + 1)) (inner_with (base + 1) 1)

  unfoldable pub node_with : ℕ → ℕ → Float
  node_with base i = cond (i == 0) (centre_with base) (cond (nat_lt (i + 1) v.n) (inner_with (base + i) i) (surface_with (base + i)))

  -- held to 0 to the largest concentration
  abbrev pub clamped_node : ℕ → ℕ → Float
  clamped_node base i = clamp_of (node_with base i) «0·0» v.c_max

  -- the particle at `base` put anew
  unfoldable pub particle_with : ℕ → List Float → List Float
  particle_with base out = places_by base v.n (clamped_node base) out

  -- k particles put anew, and the sum of their surface stoichiometries
  unfoldable pub particles_with : ℕ → List Float
  particles_with zero = c
  particles_with (suc k) = particle_with (k * v.n) (particles_with k)

  unfoldable pub surfaces_with : ℕ → Float
  surfaces_with zero = «0·0»
  surfaces_with (suc k) = surfaces_with k ⊕ at (particles_with (suc k)) (k * v.n + (v.n - 1)) ⊘ v.c_max

abbrev pub at_least_one : ℕ → ℕ
at_least_one n = cond (n == 0) 1 n

-- the particles, and the mean of their surface stoichiometries
pub record Solid : Type 0 where
  pub c : List Float
  pub theta : Float

-- with the diffusivities of the old places
unfoldable pub solid_after : ParticleParams → List Float → ℕ → Solid
solid_after v c m = record {
  c = particles_with v c (d_solids v c (m * v.n)) m;
  theta = surfaces_with v c (d_solids v c (m * v.n)) m ⊘ count (at_least_one m);
}

-- the record that holds them: 8 where one of these numbers is not finite
unfoldable pub solid_update : ParticleParams → List Float → ℕ → SolidUpdate
solid_update v c m = record {
  refusal = refusal_unless (all_finite (solid_after v c m).c (m * v.n) && finite (solid_after v c m).theta) not_finite_of;
  c_s = (solid_after v c m).c;
  theta = (solid_after v c m).theta;
}
