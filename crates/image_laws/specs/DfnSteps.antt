-- The answer of an accepted step of a Doyle-Fuller-Newman cell is read back as what `stepped` gives. The cell and the report hold the current, a number of
-- binary64. Assumes nothing.
use Rattle.std.specs.Prelude.{ℕ, ◌≡◌, List, T, length, Float}
use Rattle.std.proofs.Math.Path.{refl}
use Rattle.std.proofs.Common.{lit≤, eq-eqb}
use Rattle.std.specs.Float.{binary64}
use Rattle.std.specs.Float.Ieee.{fits}
use Rattle.dfn.specs.Answers.{DfnStepAnswer}
use Rattle.dfn.specs.Checks as DC
use Rattle.dfn.specs.Step as D
use Rattle.image_rows.specs.Written.{written}
use Rattle.dfn_images.specs.Images.{cell_at, put_cell, put_report}
use Rattle.dfn_calls.specs.Steps.{dfn_return, dfn_after}
use Rattle.image_laws.specs.Accepted.{inputs_pass}
use Rattle.image_laws.specs.Layout.{Holds, holds}
use Rattle.image_laws.specs.Reports.{writes_dfn_report}
use Rattle.image_laws.specs.DfnImages.{EncodableDfn, dfn_layout}
use Rattle.image_laws.specs.DfnEncodable.{dfn_at-encodable, dfn_step_encodable}
use Rattle.image_layout.specs.Layout.{dfn_step_bytes}

module _ (s : List ℕ) (i dt : Float) (a : List ℕ) (f : T (fits binary64 i)) (h : dfn_return s i dt ≡ 0) (l : length a ≡ dfn_step_bytes) where
  abbrev pub after : DfnStepAnswer
  after = D.stepped (cell_at s) i dt

  abbrev pub new : List ℕ
  new = put_cell a after.cell

  dfn_passes : DC.cell_refusal (cell_at s) ≡ 0
  unfolding dfn_return D.stepped
  dfn_passes = DC.step_cell (cell_at s) i dt (inputs_pass (λ (x : DfnStepAnswer). x.refusal) (DC.step_refusal (cell_at s) i dt) _ _ refl h)

  pub stepped_dfn : EncodableDfn after.cell
  stepped_dfn = dfn_step_encodable (cell_at s) i dt f (dfn_at-encodable s dfn_passes)

  pub answer_is : dfn_after s i dt a ≡ put_report new after.report
  unfolding dfn_after written
  answer_is = rw (eq-eqb (dfn_return s i dt) 0 h)

  pub dfn_answer : Holds 1126 cell_at a (dfn_after s i dt a) (D.stepped (cell_at s) i dt).cell
  dfn_answer = rw answer_is (holds dfn_layout a after.cell stepped_dfn (rw l (lit≤ tt)) (put_report new after.report) 1134 (writes_dfn_report new after.report))
