-- `dfn::DfnSolver::new` meets its contract. Assumes nothing.
use Rattle.std.proofs.lemmas.Result.{err_from_is_err_and}
use Rattle.dfn.specs.Build.{new_refusal, fresh}
use Rattle.dfn.proofs.Refusals.{first_met, second_met, sheet_fails, sheet_passes, build_refused, build_made}
use Rattle.dfn.proofs.DfnSolver.new.Goals as goal

pub returns-in_err-fit : goal.returns-in_err-fit
unfolding new_refusal
returns-in_err-fit c =
    let p = err_from_is_err_and c.from_residual.result c.from_residual.ensures.1 in
    rw (p.1, p.2) (build_refused c.args.params c.args.config _ (first_met _ _ _ c.in_err-fit.ensures.refused))

pub returns-in_err-check : goal.returns-in_err-check
unfolding new_refusal
returns-in_err-check c =
    let r = c.from_residual-in_err-check in
    let p = err_from_is_err_and r.result r.ensures.1 in
    rw (p.1, p.2) (build_refused c.args.params c.args.config _ (second_met _ _ _ c.in_ok-fit.ensures.refused (sheet_fails _ _ _ c.in_err-check.ensures.refused)))

pub returns-in_err-refuse_unless : goal.returns-in_err-refuse_unless
unfolding new_refusal
returns-in_err-refuse_unless c =
    let r = c.from_residual-in_err-refuse_unless in
    let p = err_from_is_err_and r.result r.ensures.1 in
    rw (p.1, p.2)
    (build_refused c.args.params c.args.config _
    (second_met _ _ _ c.in_ok-fit.ensures.refused
    (sheet_passes _ _ _ c.in_ok-check.ensures.refused (rw c.limits_fit.ensures at c.in_err-refuse_unless.ensures))))

pub returns : goal.returns
unfolding new_refusal fresh
returns c =
    build_made c.args.params c.args.config _
    (second_met _ _ _ c.in_ok-fit.ensures.refused
    (sheet_passes _ _ _ c.in_ok-check.ensures.refused (rw c.limits_fit.ensures at c.in_ok-refuse_unless.ensures)))
    (rw (
      c.uniform-c_e.ensures,
      c.uniform-c_s_pos.ensures,
      c.uniform-c_s_neg.ensures,
      c.used_electrolyte.ensures.value,
      c.used_solid-2.ensures.value,
      c.used_solid.ensures.value,
      c.n_x_pos.ensures,
      c.n_x_neg.ensures,
      c.in_ok-fit.ensures.same,
    ))
