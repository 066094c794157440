-- `solver::SpmSolver::step` meets its contract. Assumes nothing.
use Rattle.std.specs.Prelude.{◌≡◌, Ok, Err}
use Rattle.std.proofs.Common.{refl}
use Rattle.std.proofs.lemmas.Result.{err_from_is_err_and}
use Rattle.refusal.specs.Refusals.{number_of}
use Rattle.solver_step.specs.Answers.{reported_by}
use Rattle.solver.specs.Parts.{answer_kept, answer_made}
use Rattle.solver.proofs.SpmSolver.step.Goals as goal

pub returns-in_err-m : goal.returns-in_err-m
returns-in_err-m c =
    let a = c.args in
    let e = c.in_err-m.field-0.0 in
    let x = err_from_is_err_and c.from_residual.result c.from_residual.ensures.1 in
    rw (x.1, x.2) (answer_kept a.self a.current_a a.dt a.temp_k (reported_by (Err e)) _ _ (rw c.parts-q.ensures at c.in_err-m.ensures) (λ (z : number_of e ≡ 0). cc))

pub returns : goal.returns
returns c =
    let a = c.args in
    rw c.parts-q.ensures (answer_made a.self a.current_a a.dt a.temp_k (reported_by (Ok c.in_ok-m.m)) _ _ (rw c.parts-q.ensures at c.in_ok-m.ensures) refl)
