-- `pj_cell_step`: the cell of the last image is the cell after the same steps, and the answers report its sub-steps; on an image of another length every call is refused. Assumes
-- nothing.
use Rattle.std.specs.Prelude.{ℕ, ◌≡◌, refl, false, List, eqb, length}
use Rattle.std.proofs.Common.{◌∙◌, eq-eqb, lit≤, length-take-le}
use Rattle.solver_laws.specs.Closure as SC
use Rattle.solver_laws.specs.Demand as SD
use Rattle.codec.specs.Words.{word_at}
use Rattle.cell_images.specs.Images.{cell_at}
use Rattle.cell_calls.specs.Steps as CS
use Rattle.boundary.specs.Calls as B
use Rattle.image_laws.specs.AnswerLengths.{cell_step_length}
use Rattle.image_laws.specs.ReadBack.{cell_step_read_back, sub_steps_read_back}
use Rattle.boundary_laws.specs.CallLists.{CCall, image_after, well_formed_of, Implements, simulates, reported_is, image_stays, plain_implements}
use Rattle.image_layout.specs.Layout.{cell_sub_steps, cell_bytes, cell_step_bytes}
use Rattle.boundary_laws.specs.StepLists.{CellSimulates, cell_accepted, cell_after_lem, cell_steps, cell_total, sub_steps_value}

cell_returned : (s : List ℕ) (q : SD.Call) (a : List ℕ) → length s ≡ cell_bytes → cell_steps.returned s q a ≡ B.after_lengths (eqb (length a) cell_step_bytes) (SD.answer (cell_at s) q).refusal
unfolding B.cell_return CS.cell_return
cell_returned s q a l = rw (eq-eqb (length s) cell_bytes l)

pub cell_steps_implement : Implements cell_steps
cell_steps_implement =
    plain_implements cell_steps
    (record {
      returned_is = cell_returned;
      handed_is = λ s q a. refl;
      accepted_reads = λ s q a h. cell_step_read_back s q.current q.dt q.temp a h;
      accepted_fills = λ s q a h. length-take-le cell_bytes (cell_steps.left s q a) (rw (cell_step_length s q.current q.dt q.temp a h) (lit≤ tt));
      refused_keeps = λ c q n. (SC.step_refused c q.current q.dt q.temp n).0;
    })

-- THE CELL OF THE LAST IMAGE is the cell after the same steps, and the answers report its sub-steps
pub cell_simulates : (qs : List (CCall SD.Call)) (s : List ℕ) → length s ≡ cell_bytes → CellSimulates s qs
cell_simulates qs s l =
    let f = simulates cell_steps cell_steps_implement qs s l in
    let w = well_formed_of cell_steps qs in
    record {
      cell = f.reads ∙ cell_after_lem w (cell_at s);
      size = f.fills;
      calls = f.calls ∙ cell_accepted w (cell_at s);
      count =
          reported_is cell_steps cell_steps_implement (λ a. word_at a cell_sub_steps) sub_steps_value (λ s q a h. sub_steps_read_back s q.current q.dt q.temp a h)
          (λ c q n. (SC.step_refused c q.current q.dt q.temp n).1) qs s l
          ∙ cell_total w (cell_at s);
    }

cell_refused : (s : List ℕ) (q : SD.Call) (a : List ℕ) → eqb (length s) cell_bytes ≡ false → cell_steps.handed s q a ≡ false
unfolding B.cell_return B.after_lengths
cell_refused s q a n = rw n

pub cell_image_stays : (qs : List (CCall SD.Call)) (s : List ℕ) → eqb (length s) cell_bytes ≡ false → image_after cell_steps s qs ≡ s
cell_image_stays = image_stays cell_steps cell_refused
