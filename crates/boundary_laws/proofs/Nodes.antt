-- The nodes of an electrode, as words of an image. Assumes nothing.
use Rattle.std.specs.Prelude.{ℕ, ◌+◌, ◌<◌, ◌≡◌, List}
use Rattle.std.proofs.Common.{sym, ap, ◌∙◌}
use Rattle.binary64.specs.Value.{val}
use Rattle.particle.specs.Particle.{place_of}
use Rattle.solver.specs.declared.SpmSolver.{SpmSolver}
use Rattle.solver_laws.specs.Electrodes as L
use Rattle.solver_laws.specs.Electrodes.{Electrode, electrode_passes, nodes_are}
use Rattle.codec.specs.Words.{float_at}
use Rattle.sheet_images.specs.Images.{particle_at}
use Rattle.cell_images.specs.Images.{cell_at}
use Rattle.image_layout.specs.Layout.{cell_anode_profile, cell_cathode_profile}
use Rattle.boundary_laws.specs.Nodes.{first_node, node_at, row_place}

electrode_node : (e : Electrode) (s : List ℕ) (i : ℕ) → i < 64 → place_of (L.particle_at e (cell_at s)) i ≡ float_at s (first_node e + i)
unfolding cell_at particle_at
electrode_node Electrode.anode s i l = row_place s cell_anode_profile i l
electrode_node Electrode.cathode s i l = row_place s cell_cathode_profile i l

-- those of the cell c
pub cell_nodes : (e : Electrode) (t : List ℕ) (c : SpmSolver) → cell_at t ≡ c → (i : ℕ) → i < 64 → val (place_of (L.particle_at e c) i) ≡ node_at e t i
cell_nodes e t c w i l = ap (λ (b : SpmSolver). val (place_of (L.particle_at e b) i)) (sym w) ∙ ap val (electrode_node e t i l)
