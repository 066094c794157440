-- What is written is read back: the report of a Doyle-Fuller-Newman step, and the solution of linear equations. That the call returns 0 is the only premise. A number that
-- an answer repeats is given by its 64 bits, as C gives it (`f64 bits`). Assumes nothing.
use Rattle.std.specs.Prelude.{ℕ, ◌≡◌, List, map, eqb, length, Float}
use Rattle.std.proofs.Common.{ap, ◌∙◌, le_refl, eq-eqb, eqb-true}
use Rattle.binary64.specs.Operators.{f64}
use Rattle.dfn.specs.Step as D
use Rattle.dense.specs.Solve.{solved}
use Rattle.codec.specs.Words.{places_at}
use Rattle.image_rows.specs.Written.{written}
use Rattle.dfn_images.specs.Images as I
use Rattle.dfn_calls.specs.Steps as PS
use Rattle.boundary.specs.Calls as B
use Rattle.image_laws.specs.Accepted.{after_lengths_lem, accepted}
use Rattle.image_laws.specs.Encodable.{literal}
use Rattle.image_laws.specs.Rows.{row_read_back}
use Rattle.image_laws.specs.Reports.{dfn_report_at}
use Rattle.image_laws.proofs.DfnSteps.{dfn_report_answer}
use Rattle.image_laws.specs.Dense.{doubles_encodable}
use Rattle.image_laws.proofs.Dense.{solved_encodable}
use Rattle.image_layout.specs.Layout.{dfn_bytes, dfn_step_bytes}

pub dfn_report_read_back : (s : List ℕ) (bits : ℕ) (dt : Float) (a : List ℕ) → B.dfn_return s (f64 bits) dt (length a) ≡ 0
    → dfn_report_at (B.dfn_after s (f64 bits) dt a) ≡ (D.stepped (I.cell_at s) (f64 bits) dt).report
unfolding B.dfn_return B.dfn_after
dfn_report_read_back s bits dt a h =
    let c = accepted s a dfn_bytes dfn_step_bytes (PS.dfn_return s (f64 bits) dt) (PS.dfn_after s (f64 bits) dt a) h in
    ap dfn_report_at c.writes ∙ dfn_report_answer s (f64 bits) dt a (literal bits) c.refusal c.answer

-- ---- the solution of linear equations, whose right side is a row of doubles
pub solution_read_back : (m : List Float) (bits : List ℕ) (n : ℕ) (a : List ℕ) → B.dense_return m (map f64 bits) n (length a) ≡ 0
    → places_at 32 (B.dense_after m (map f64 bits) n a) 0 ≡ (solved m (map f64 bits) n).x
unfolding B.dense_return B.dense_after written
solution_read_back m bits n a h =
    let r = solved m (map f64 bits) n in
    let c = after_lengths_lem (eqb (length a) 256) r.refusal h in
    let k = solved_encodable m (map f64 bits) n (doubles_encodable bits) in
    rw (c.0, eq-eqb r.refusal 0 c.1) (row_read_back 32 a 0 r.x k.count (rw (eqb-true (length a) 256 c.0) (le_refl 256)) k.places)
