-- `dfn::DfnSolver::check_step` meets its contract. Assumes nothing.
use Rattle.std.proofs.lemmas.Result.{err_from_is_err_and}
use Rattle.dfn.specs.Checks.{cell_refusal, step_refusal}
use Rattle.dfn.proofs.Refusals.{first_met, second_met}
use Rattle.dfn.proofs.DfnSolver.check_step.Goals as goal

pub returns-in_err-check_cell : goal.returns-in_err-check_cell
unfolding step_refusal cell_refusal
returns-in_err-check_cell c =
    let p = err_from_is_err_and c.from_residual.result c.from_residual.ensures.1 in
    rw (p.1, p.2) (first_met _ _ _ c.in_err-check_cell.ensures.refused)

pub returns : goal.returns
unfolding step_refusal cell_refusal
returns c =
    second_met _ _ _ c.in_ok-check_cell.ensures.refused c.check_load.ensures
