-- The worked instance of specs/Instance: the calls that are accepted, and theorems 2 and 3 for them, every premise met. Assumes nothing.
use Rattle.std.specs.Prelude.{ℕ, ◌<◌, ◌≡◌, refl, List, [], ◌∷◌, length}
use Rattle.std.proofs.Common.{ap, ◌∙◌}
use Rattle.fraction.specs.Fraction.{nat, pow2, ◌-F◌, ◌*F◌, ◌/F◌, ◌within◌}
use Rattle.diffusion.specs.Run.{Both}
use Rattle.elementary.specs.Exp.{one}
use Rattle.solver.specs.declared.SpmSolver.{SpmSolver}
use Rattle.solver.specs.Cell as S
use Rattle.solver_laws.specs.Electrodes.{Electrode}
use Rattle.solver_laws.specs.Demand as SD
use Rattle.solver_laws.specs.Ranking.{Twins}
use Rattle.solver_laws.specs.Instance.{start, later, start_passes, later_passes, twins, minute, three, four, draw, discharge, stronger, stronger_paired}
use Rattle.solver_laws.proofs.Instance.{discharge_taken, discharge_counted, discharge_bounds, stronger_taken, stronger_bounds}
use Rattle.cell_images.specs.Images.{cell_at}
use Rattle.boundary_laws.specs.CallLists.{CCall, image_after, accepted_calls, well_formed_of}
use Rattle.boundary_laws.specs.StepLists.{cell_steps, reported_sub_steps}
use Rattle.boundary_laws.proofs.StepLists.{cell_simulates}
use Rattle.boundary_laws.specs.Nodes.{node_at, most_at}
use Rattle.boundary_laws.specs.Demand.{CellFluxBounds, cell_images_near, RankedImages}
use Rattle.boundary_laws.proofs.Demand.{cell_images_ranked}
use Rattle.image_layout.specs.Layout.{cell_bytes}
use Rattle.boundary_laws.specs.Instance.{calls, image, image_cell, image_length, later_cell, later_image, later_length, stronger_calls}

-- ---- the premises
-- a list of calls from C on the image s of a cell c
module _ (s : List ℕ) (c : SpmSolver) (l : length s ≡ cell_bytes) (is : cell_at s ≡ c) (qs : List (CCall SD.Call)) (w : List SD.Call) (f : well_formed_of cell_steps qs ≡ w) where
  accepted_are : accepted_calls cell_steps s qs ≡ SD.taken c w
  accepted_are = (cell_simulates qs s l).calls ∙ ap (λ (x : SpmSolver). SD.taken x (well_formed_of cell_steps qs)) is ∙ ap (SD.taken c) f

  counted_are : reported_sub_steps s qs ≡ SD.K c w
  counted_are = (cell_simulates qs s l).count ∙ ap (λ (x : SpmSolver). SD.K x (well_formed_of cell_steps qs)) is ∙ ap (SD.K c) f

  bounds_are : (e : Electrode) → SD.FluxBoundAt e c w → CellFluxBounds e s qs
  bounds_are e b = rw (accepted_are, is) b

formed_calls : well_formed_of cell_steps calls ≡ discharge
unfolding well_formed_of
formed_calls = refl

formed_stronger : well_formed_of cell_steps stronger_calls ≡ stronger
unfolding well_formed_of
formed_stronger = refl

pub calls_accepted : accepted_calls cell_steps image calls ≡ draw three minute ∷ draw three one ∷ []
calls_accepted = accepted_are image start image_length image_cell calls discharge formed_calls ∙ discharge_taken

pub stronger_accepted : accepted_calls cell_steps later_image stronger_calls ≡ draw four minute ∷ draw four one ∷ []
stronger_accepted = accepted_are later_image later later_length later_cell stronger_calls stronger formed_stronger ∙ stronger_taken

pub calls_counted : reported_sub_steps image calls ≡ 66
calls_counted = counted_are image start image_length image_cell calls discharge formed_calls ∙ discharge_counted

calls_bounds : (e : Electrode) → CellFluxBounds e image calls
calls_bounds e = bounds_are image start image_length image_cell calls discharge formed_calls e (discharge_bounds e)

stronger_calls_bounds : (e : Electrode) → CellFluxBounds e later_image stronger_calls
stronger_calls_bounds e = bounds_are later_image later later_length later_cell stronger_calls stronger formed_stronger e (stronger_bounds e)

image_passes : S.cell_refusal (cell_at image) ≡ 0
image_passes = rw image_cell start_passes

later_image_passes : S.cell_refusal (cell_at later_image) ≡ 0
later_image_passes = rw later_cell later_passes

image_twins : Twins (cell_at image) (cell_at later_image)
image_twins = rw (image_cell, later_cell) twins

-- ---- THEOREM 2 for the words of the last image, K = 66
pub image_near : (e : Electrode) (i : ℕ) → i < 11
    → node_at e (image_after cell_steps image calls) i -F SD.exact_place e start discharge i within nat 66 *F most_at e start /F pow2 49
image_near e i l = rw (image_cell, formed_calls, calls_counted) at (cell_images_near e image calls image_length image_passes (calls_bounds e) i (rw image_cell l))

-- ---- THEOREM 3 for these calls and the stronger ones
pub image_ranked : RankedImages image later_image calls stronger_calls
image_ranked =
    cell_images_ranked image later_image calls stronger_calls image_length later_length image_passes later_image_passes image_twins calls_bounds stronger_calls_bounds
    (rw (calls_accepted, stronger_accepted) (Both.more (stronger_paired minute) (Both.more (stronger_paired one) Both.none)))
