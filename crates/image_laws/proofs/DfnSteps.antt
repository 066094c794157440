-- The report of an accepted step of a Doyle-Fuller-Newman cell is read back as what `stepped` gives. Assumes nothing.
use Rattle.std.specs.Prelude.{ℕ, ◌≡◌, List, T, length, Float}
use Rattle.std.proofs.Common.{ap, ◌∙◌, lit≤}
use Rattle.std.specs.Float.{binary64}
use Rattle.std.specs.Float.Ieee.{fits}
use Rattle.dfn.specs.Answers.{DfnStepAnswer}
use Rattle.dfn.specs.Step as D
use Rattle.dfn_images.specs.Images.{cell_at}
use Rattle.dfn_calls.specs.Steps.{dfn_return, dfn_after}
use Rattle.image_laws.specs.DfnImages.{writes_dfn}
use Rattle.image_laws.specs.DfnEncodable.{dfn_report_encodable}
use Rattle.image_layout.specs.Layout.{dfn_step_bytes}
use Rattle.image_laws.specs.Reports.{dfn_report_at}
use Rattle.image_laws.proofs.Reports.{dfn_report_row_read_back}
use Rattle.image_laws.specs.DfnSteps.{after as after_of, new as new_of, stepped_dfn, answer_is}

module _ (s : List ℕ) (i dt : Float) (a : List ℕ) (f : T (fits binary64 i)) (h : dfn_return s i dt ≡ 0) (l : length a ≡ dfn_step_bytes) where
  abbrev after : DfnStepAnswer
  after = after_of s i dt a f h l

  abbrev new : List ℕ
  new = new_of s i dt a f h l

  pub dfn_report_answer : dfn_report_at (dfn_after s i dt a) ≡ (D.stepped (cell_at s) i dt).report
  dfn_report_answer =
      let r = dfn_report_encodable (cell_at s) i dt f in
      ap dfn_report_at (answer_is s i dt a f h l) ∙ dfn_report_row_read_back new after.report (rw ((writes_dfn a after.cell (stepped_dfn s i dt a f h l)).size ∙ l) (lit≤ tt)) r.numbers r.count
