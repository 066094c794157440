-- The nodes of a particle or of an electrode, as words of an image. Assumes nothing.
use Rattle.std.specs.Prelude.{ℕ, ◌+◌, ◌<◌, ◌≤◌, ◌≡◌, List, get_or, replicate}
use Rattle.std.proofs.Common.{sym, ap, ◌∙◌, subst, arith, le_refl}
use Rattle.std.specs.Float.{nan}
use Rattle.image_laws.specs.CellImages.{particle_in}
use Rattle.fraction.specs.Fraction.{Fraction}
use Rattle.binary64.specs.Value.{val}
use Rattle.binary64.specs.Literals.{«0·0»}
use Rattle.iterate.specs.Iterate.{first_below}
use Rattle.particle.specs.declared.ParticleDiffusion.{ParticleDiffusion}
use Rattle.particle.specs.Checks.{nodes_of}
use Rattle.particle.specs.Particle.{place_of}
use Rattle.solver.specs.declared.SpmSolver.{SpmSolver}
use Rattle.solver.specs.Cell.{cell_refusal}
use Rattle.solver_laws.specs.Electrodes as L
use Rattle.solver_laws.specs.Electrodes.{Electrode, electrode_passes, nodes_are}
use Rattle.codec.specs.Words.{float_at, places_at}
use Rattle.sheet_images.specs.Images.{particle_at}
use Rattle.image_layout.specs.Layout.{particle_profile, cell_anode_profile, cell_cathode_profile}

-- the word of an electrode's first node
abbrev pub first_node : Electrode → ℕ
first_node Electrode.anode = cell_anode_profile
first_node Electrode.cathode = cell_cathode_profile

-- node i of a particle's image, and of an electrode in a cell's
abbrev pub node_of : List ℕ → ℕ → Fraction
node_of s i = val (float_at s (particle_profile + i))

abbrev pub node_at : Electrode → List ℕ → ℕ → Fraction
node_at e s i = val (float_at s (first_node e + i))

-- M: the most that a node holds
abbrev pub most_at : Electrode → SpmSolver → Fraction
most_at e c = val (L.particle_at e c).params.c_s_max

pub row_place : (s : List ℕ) (at i : ℕ) → i < 64 → get_or (places_at 64 s at) i nan ≡ float_at s (at + i)
row_place s at i l = first_below (λ k. float_at s (at + k)) (replicate 64 «0·0») 64 i nan l (le_refl 64)

particle_node : (s : List ℕ) (i : ℕ) → i < 64 → place_of (particle_in s) i ≡ float_at s (particle_profile + i)
unfolding particle_at
particle_node s i l = row_place s particle_profile i l

-- the nodes of the particle p that the image t holds
pub particle_nodes_lem : (t : List ℕ) (p : ParticleDiffusion) → particle_in t ≡ p → (i : ℕ) → i < 64 → val (place_of p i) ≡ node_of t i
particle_nodes_lem t p w i l = ap (λ (r : ParticleDiffusion). val (place_of r i)) (sym w) ∙ ap val (particle_node t i l)

-- a cell that passes the checks has at most 64 nodes
pub node_below : (c : SpmSolver) → cell_refusal c ≡ 0 → (i : ℕ) → i < c.config.n_nodes → i < 64
node_below c h i l =
    let n : c.config.n_nodes ≤ 64 = subst (λ (k : ℕ). k ≤ 64) (nodes_are c h Electrode.anode) (nodes_of c.anode (electrode_passes c h Electrode.anode)).1 in
    omega (arith, l, n)
