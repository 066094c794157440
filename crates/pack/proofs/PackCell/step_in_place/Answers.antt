-- `pack::PackCell::step_in_place` meets its contract. Assumes nothing.
use Rattle.std.specs.Prelude.{◌≡◌, List, Float, Ok, Err}
use Rattle.std.proofs.Common.{refl, sym, ap, ◌∙◌}
use Rattle.std.proofs.lemmas.Result.{err_from_is_err_and}
use Rattle.refusal.specs.Refusals.{number_of}
use Rattle.electrode.specs.declared.ElectrodeParams.{ElectrodeParams}
use Rattle.kinetics.specs.declared.SpmConfig.{SpmConfig}
use Rattle.solver_step.specs.Answers.{SpmReported, reported_by}
use Rattle.solver.specs.Answers.{SpmStepAnswer}
use Rattle.solver.specs.Parts.{Agrees, answer_kept}
use Rattle.solver.specs.Step.{stepped}
use Rattle.pack.specs.declared.PackCell.{PackCell}
use Rattle.pack.specs.Pack.{solver_of}
use Rattle.pack.specs.Stepped.{stepped_made, stepped_kept}
use Rattle.pack.proofs.PackCell.step_in_place.Goals as goal

-- refused, both profiles are as they were
profiles-kept : (x : PackCell) (g : SpmConfig) (a c : ElectrodeParams) (i dt t : Float) (r : SpmReported) (neg pos : List Float)
    → Agrees (stepped (solver_of g a c x) i dt t) r neg pos → (r.refusal ≡ 0 → ⊥) → (neg ≡ x.c_neg) × (pos ≡ x.c_pos)
profiles-kept x g a c i dt t r neg pos h z =
    let e = answer_kept (solver_of g a c x) i dt t r neg pos h z in
    (h.1.1.1.0 ∙ sym (ap (λ (y : SpmStepAnswer). y.solver.anode.c_s) e), h.1.1.1.1 ∙ sym (ap (λ (y : SpmStepAnswer). y.solver.cathode.c_s) e))

pub returns-in_err-report : goal.returns-in_err-report
returns-in_err-report c =
    let a = c.args in
    let s = a.sheets in
    let e = c.in_err-report.field-0.0 in
    let x = err_from_is_err_and c.from_residual.result c.from_residual.ensures.1 in
    let above : number_of e ≡ 0 → ⊥ = λ z. cc in
    let agrees = rw c.parts_with-q.ensures at c.in_err-report.ensures in
    let k = profiles-kept a.self.now s.config s.anode s.cathode a.current_a a.dt a.temp_k (reported_by (Err e)) _ _ agrees above in
    rw (x.1, x.2, k.0, k.1) (stepped_kept a.self.now s.config s.anode s.cathode a.current_a a.dt a.temp_k (reported_by (Err e)) _ _ agrees above)

pub returns : goal.returns
returns c =
    let a = c.args in
    let s = a.sheets in
    rw c.parts_with-q.ensures
    (stepped_made a.self.now s.config s.anode s.cathode a.current_a a.dt a.temp_k (reported_by (Ok c.in_ok-report.report)) _ _
    (rw c.parts_with-q.ensures at c.in_ok-report.ensures) refl)
