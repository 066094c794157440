-- The report of a Doyle-Fuller-Newman cell's step is read back. Assumes nothing.
use Rattle.std.specs.Prelude.{ℕ, ◌≤◌, ◌<◌, ◌+◌, ◌^◌, ◌≡◌, List, length}
use Rattle.std.proofs.Math.Path.{refl}
use Rattle.std.proofs.Common.{lit≤}
use Rattle.dfn.specs.declared.DfnStep.{DfnStep}
use Rattle.dfn_images.specs.Images as D
use Rattle.image_laws.specs.Encodable.{EncodableRow}
use Rattle.image_layout.specs.Layout.{dfn_report, dfn_step_bytes}
use Rattle.image_laws.specs.Reports.{dfn_report_at, reported_read_back, flag_read_back, count_read_back}

-- ---- a Doyle-Fuller-Newman cell's report
module _ (s : List ℕ) (r : DfnStep) where
  pub dfn_report_row_read_back : dfn_step_bytes ≤ length s → EncodableRow (D.report_numbers r) → r.newton_iter < 2 ^ 64 → dfn_report_at (D.put_report s r) ≡ r
  unfolding dfn_report_at D.put_report
  dfn_report_row_read_back l h m =
      let x = reported_read_back s dfn_report (D.report_numbers r) r.cutoff r.newton_iter l h in
      rw (
        x 0 dfn_report (lit≤ tt) refl,
        x 1 (dfn_report + 1) (lit≤ tt) refl,
        x 2 (dfn_report + 2) (lit≤ tt) refl,
        x 3 (dfn_report + 3) (lit≤ tt) refl,
        x 4 (dfn_report + 4) (lit≤ tt) refl,
        x 5 (dfn_report + 5) (lit≤ tt) refl,
        flag_read_back s dfn_report (D.report_numbers r) r.cutoff r.newton_iter l,
        count_read_back s dfn_report (D.report_numbers r) r.cutoff r.newton_iter l m,
      )
