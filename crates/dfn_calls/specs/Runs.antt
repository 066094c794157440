-- What a run of a Doyle-Fuller-Newman cell returns, what it leaves in its rows and in its answer, which is written unless the run is refused before
-- its first row. Definitions only.
use Rattle.std.specs.Prelude.{ℕ, cond, List, Float}
use Rattle.runs.specs.RunAnswers.{writes_answer}
use Rattle.runs.specs.Lowest.{Room}
use Rattle.galvanostatic_run.specs.Galvanostatic as D
use Rattle.image_rows.specs.Written.{put_ending}
use Rattle.dfn_images.specs.Images.{cell_at, put_cell}
use Rattle.image_layout.specs.Layout.{dfn_ending}

abbrev galvanostatic : List ℕ → Float → Float → Float → Room → D.RunOutcome
galvanostatic s i dt limit room = D.galvanostatic (cell_at s) i dt limit room

unfoldable pub galvanostatic_return : List ℕ → Float → Float → Float → Room → ℕ
galvanostatic_return s i dt limit room = (galvanostatic s i dt limit room).ended.refusal

unfoldable pub galvanostatic_rows : List ℕ → Float → Float → Float → List Float → List Float → List Float
galvanostatic_rows s i dt limit rows lowest = D.galvanostatic_rows (cell_at s) i dt limit rows lowest

unfoldable pub galvanostatic_lowest : List ℕ → Float → Float → Float → List Float → List Float → List Float
galvanostatic_lowest s i dt limit rows lowest = D.galvanostatic_lowest (cell_at s) i dt limit rows lowest

unfoldable pub galvanostatic_after : List ℕ → Float → Float → Float → Room → List ℕ → List ℕ
galvanostatic_after s i dt limit room a =
    cond
    (writes_answer (galvanostatic s i dt limit room).ended.refusal (galvanostatic s i dt limit room).rows)
    (put_ending
    (put_cell a (galvanostatic s i dt limit room).cell)
    dfn_ending
    (galvanostatic s i dt limit room).ended.ending
    (galvanostatic s i dt limit room).rows)
    a
