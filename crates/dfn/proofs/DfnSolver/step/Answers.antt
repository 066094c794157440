-- `dfn::DfnSolver::step` meets its contract. Assumes nothing.
use Rattle.std.proofs.Common.{refl, arith}
use Rattle.std.proofs.lemmas.Result.{err_from_is_err_and}
use Rattle.dfn.specs.Parts.{answer_kept, answer_made}
use Rattle.dfn.proofs.DfnSolver.step.Goals as goal

pub returns-in_err-report : goal.returns-in_err-report
returns-in_err-report c =
    let p = err_from_is_err_and c.from_residual.result c.from_residual.ensures.1 in
    let d = c.args.self in
    rw (p.1, p.2)
    (answer_kept d c.args.current c.args.dt _ _ _ _ (c.in_err-report.ensures d.voltage d.current d.theta_neg_surf d.theta_pos_surf) (λ z. omega (arith, z)))

pub returns : goal.returns
returns c =
    let d = c.args.self in
    answer_made d c.args.current c.args.dt _ _ _ _ (c.in_ok-report.ensures d.voltage d.current d.theta_neg_surf d.theta_pos_surf) refl
