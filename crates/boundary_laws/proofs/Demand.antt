-- THEOREM 3 OF THE THIRD DEMAND, OF CALLS FROM C, and that an image that passes stays so. `RankedImages` stands in specs/Demand. Assumes nothing.
use Rattle.std.specs.Prelude.{ℕ, ◌≡◌, List, length}
use Rattle.std.proofs.Common.{sym, ◌∙◌, subst}
use Rattle.diffusion.specs.Premises.{FluxBound}
use Rattle.diffusion.specs.Run.{Each, Both}
use Rattle.solver.specs.Cell.{cell_refusal}
use Rattle.solver_laws.specs.Electrodes.{Electrode}
use Rattle.solver_laws.specs.Demand as SD
use Rattle.solver_laws.specs.Ranking.{Paired, Twins, Ranked}
use Rattle.solver_laws.proofs.Ranking.{solver_ranking}
use Rattle.cell_images.specs.Images.{cell_at}
use Rattle.boundary_laws.specs.CallLists.{CCall, image_after, accepted_calls, well_formed_of}
use Rattle.boundary_laws.specs.StepLists.{cell_steps}
use Rattle.boundary_laws.proofs.StepLists.{cell_simulates}
use Rattle.boundary_laws.specs.Nodes.{node_below}
use Rattle.boundary_laws.proofs.Nodes.{cell_nodes}
use Rattle.image_layout.specs.Layout.{cell_bytes}
use Rattle.boundary_laws.specs.Demand.{CellFluxBounds, RankedImages}

-- after any list the image's cell passes the checks
pub cell_images_pass : (s : List ℕ) (qs : List (CCall SD.Call)) → length s ≡ cell_bytes → cell_refusal (cell_at s) ≡ 0 → cell_refusal (cell_at (image_after cell_steps s qs)) ≡ 0
cell_images_pass s qs l h = rw (cell_simulates qs s l).cell (SD.after_passes (well_formed_of cell_steps qs) (cell_at s) h)

pub cell_images_ranked : (s s' : List ℕ) (qs qs' : List (CCall SD.Call)) → length s ≡ cell_bytes → length s' ≡ cell_bytes → cell_refusal (cell_at s) ≡ 0 → cell_refusal (cell_at s') ≡ 0
    → Twins (cell_at s) (cell_at s') → ((e : Electrode) → CellFluxBounds e s qs) → ((e : Electrode) → CellFluxBounds e s' qs')
    → Both Paired (accepted_calls cell_steps s qs) (accepted_calls cell_steps s' qs') → RankedImages s s' qs qs'
cell_images_ranked s s' qs qs' l l' h h' t bs bs' ps =
    let w = well_formed_of cell_steps qs in
    let w' = well_formed_of cell_steps qs' in
    let f = cell_simulates qs s l in
    let f' = cell_simulates qs' s' l' in
    let bounds : (e : Electrode) → SD.FluxBoundAt e (cell_at s) w = λ e. subst (Each (λ q. FluxBound (SD.numbers_at e (cell_at s) q))) f.calls (bs e) in
    let bounds' : (e : Electrode) → SD.FluxBoundAt e (cell_at s') w' = λ e. subst (Each (λ q. FluxBound (SD.numbers_at e (cell_at s') q))) f'.calls (bs' e) in
    let pairs : Both Paired (SD.taken (cell_at s) w) (SD.taken (cell_at s') w') = rw (f.calls, f'.calls) at ps in
    let r : Ranked (cell_at s) (cell_at s') w w' = solver_ranking (cell_at s) (cell_at s') w w' h h' t bounds bounds' pairs in
    let c = SD.cell_after (cell_at s) w in
    let c' = SD.cell_after (cell_at s') w' in
    record {
      count = f'.count ∙ r.count ∙ sym f.count;
      cathode = λ i m.
          let n = node_below (cell_at s) h i m in
          rw (← cell_nodes Electrode.cathode (image_after cell_steps s qs) c f.cell i n, ← cell_nodes Electrode.cathode (image_after cell_steps s' qs') c' f'.cell i n, f.count) (r.cathode i m);
      anode = λ i m.
          let n = node_below (cell_at s) h i m in
          rw (← cell_nodes Electrode.anode (image_after cell_steps s qs) c f.cell i n, ← cell_nodes Electrode.anode (image_after cell_steps s' qs') c' f'.cell i n, f.count) (r.anode i m);
    }
