-- The worked instance of specs/MixedInstance: theorem 2 of a list that mixes calls, every premise met. Assumes nothing.
use Rattle.std.specs.Prelude.{ℕ, ◌<◌, ◌≡◌, []}
use Rattle.std.proofs.Common.{ap, ◌∙◌}
use Rattle.fraction.specs.Fraction.{nat, pow2, ◌-F◌, ◌*F◌, ◌/F◌, ◌within◌}
use Rattle.solver.specs.declared.SpmSolver.{SpmSolver}
use Rattle.solver_laws.specs.Electrodes.{Electrode}
use Rattle.solver_laws.specs.Demand as SD
use Rattle.solver_laws.specs.Instance.{start, start_passes, discharge}
use Rattle.solver_laws.proofs.Instance.{discharge_counted, discharge_bounds}
use Rattle.cell_images.specs.Images.{cell_at}
use Rattle.image_builds.specs.Builds.{build_length}
use Rattle.boundary_laws.specs.CallLists.{image_after, well_formed_of}
use Rattle.boundary_laws.specs.MixedLists.{cell_calls}
use Rattle.boundary_laws.specs.Nodes.{node_at, most_at}
use Rattle.boundary_laws.specs.MixedDemand.{since_build, since_build_in}
use Rattle.boundary_laws.proofs.MixedDemand.{mixed_images_near}
use Rattle.boundary_laws.specs.Instance.{zeros, zeros_length, config_length, build_is}
use Rattle.image_layout.specs.Layout.{cell_bytes}
use Rattle.boundary_laws.specs.MixedInstance.{mixed_calls, mixed_formed, since_build_lem}

-- ---- the premises
formed_calls : well_formed_of cell_calls mixed_calls ≡ mixed_formed
unfolding well_formed_of build_length
formed_calls = rw config_length

pub mixed_since : since_build_in (zeros cell_bytes) mixed_calls ≡ record { start = start; steps = discharge }
mixed_since = ap (since_build (record { start = cell_at (zeros cell_bytes); steps = [] })) formed_calls ∙ since_build_lem (cell_at (zeros cell_bytes)) ∙ ap (λ (c : SpmSolver). record { start = c; steps = discharge }) build_is

-- ---- THEOREM 2 for the words of the last image, K = 66
pub mixed_image_near : (e : Electrode) (i : ℕ) → i < 11
    → node_at e (image_after cell_calls (zeros cell_bytes) mixed_calls) i -F SD.exact_place e start discharge i within nat 66 *F most_at e start /F pow2 49
mixed_image_near e i l =
    rw (mixed_since, discharge_counted) at
    (mixed_images_near e (zeros cell_bytes) mixed_calls (zeros_length cell_bytes) (rw mixed_since start_passes) (rw mixed_since (discharge_bounds e)) i (rw mixed_since l))
