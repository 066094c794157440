-- `pack::PackCell::step` meets its contract. Assumes nothing.
use Rattle.std.specs.Prelude.{◌≡◌}
use Rattle.std.proofs.Common.{ap, ◌∙◌}
use Rattle.std.proofs.lemmas.Result.{err_from_is_err_and}
use Rattle.refusal.specs.Refusals.{number_of}
use Rattle.pack.specs.Answers.{PackStepped}
use Rattle.pack.specs.Pack.{cell_stepped}
use Rattle.pack.specs.Stepped.{cell_kept}
use Rattle.pack.proofs.PackCell.step.Goals as goal

pub returns-in_err-report : goal.returns-in_err-report
returns-in_err-report c =
    let a = c.args in
    let s = a.sheets in
    let x = err_from_is_err_and c.from_residual.result c.from_residual.ensures.1 in
    let h = c.in_err-report.ensures in
    let n : number_of c.in_err-report.field-0.0 ≡ (cell_stepped a.self s.config s.anode s.cathode a.current_a a.dt a.temp_k).reported.refusal = ap (λ (y : PackStepped). y.reported.refusal) h in
    let k = ap (λ (y : PackStepped). y.cell) h ∙ cell_kept a.self s.config s.anode s.cathode a.current_a a.dt a.temp_k (λ z. cc) in
    rw (x.1, x.2) (rw k at h)
