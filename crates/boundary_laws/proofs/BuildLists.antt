-- `pj_build` 8, 9 and 10 implement their definition. Assumes nothing.
use Rattle.std.specs.Prelude.{ℕ, ◌≡◌, refl, List, length}
use Rattle.std.proofs.Common.{sym, ap, ◌∙◌}
use Rattle.cell_images.specs.Images.{cell_at}
use Rattle.image_builds.specs.Builds.{cell_built}
use Rattle.image_laws.specs.Accepted.{after_lengths_lem}
use Rattle.boundary.specs.Calls as B
use Rattle.image_laws.specs.CellBuilds.{cell_build_return, cell_return_lem}
use Rattle.image_laws.specs.AnswerLengths.{cell_build_length}
use Rattle.image_laws.specs.ReadBack.{cell_build_read_back}
use Rattle.boundary_laws.specs.CallLists.{Implements, plain_implements}
use Rattle.boundary_laws.specs.StepLists.{whole}
use Rattle.image_layout.specs.Layout.{cell_bytes}
use Rattle.boundary_laws.specs.BuildLists.{CellBuild, built, cell_builds, unbuilt}

cell_build_returned : (s : List ℕ) (q : CellBuild) (a : List ℕ) → cell_builds.returned s q a ≡ B.after_lengths (cell_builds.formed q a) (cell_built q.call q.image).refusal
cell_build_returned s q a =
    cell_build_return q.call q.image a q.least q.most ∙ ap (B.after_lengths (cell_builds.formed q a)) (cell_return_lem q.call q.image a q.least q.most)

pub cell_builds_implement : Implements cell_builds
cell_builds_implement =
    plain_implements cell_builds
    (record {
      returned_is = λ s q a l. cell_build_returned s q a;
      handed_is = λ s q a. refl;
      accepted_reads = λ s q a h.
          ap cell_at (whole cell_bytes (cell_builds.left s q a) (cell_build_length q.call q.image a q.least q.most h)) ∙ cell_build_read_back q.call q.image a q.least q.most h
          ∙ sym (built _ _ (cell_at s) (after_lengths_lem _ _ (sym (cell_build_returned s q a) ∙ h)).1);
      accepted_fills = λ s q a h. let l = cell_build_length q.call q.image a q.least q.most h in ap length (whole cell_bytes (cell_builds.left s q a) l) ∙ l;
      refused_keeps = λ c q n. unbuilt _ _ c n;
    })
