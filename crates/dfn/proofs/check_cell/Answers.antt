-- `dfn::check_cell` meets its contract. Assumes nothing.
use Rattle.std.proofs.lemmas.Result.{err_from_is_err_and}
use Rattle.dfn.proofs.Refusals.{first_met, second_met, sheet_fails, first_of_six}
use Rattle.dfn.proofs.check_cell.Goals as goal

pub returns-in_err-fit_g-clause-refused : goal.returns-in_err-fit_g-clause-refused
returns-in_err-fit_g-clause-refused c =
    let p = err_from_is_err_and c.from_residual.result c.from_residual.ensures.1 in
    rw (p.1, p.2) (first_met _ _ _ c.in_err-fit_g.ensures.refused)

pub returns-in_err-fit_p-clause-refused : goal.returns-in_err-fit_p-clause-refused
returns-in_err-fit_p-clause-refused c =
    let r = c.from_residual-in_err-fit_p in
    let p = err_from_is_err_and r.result r.ensures.1 in
    rw (p.1, p.2)
    (second_met _ _ _ c.in_ok-fit_g.ensures.refused
    (sheet_fails _ _ _ (sheet_fails _ _ _ (sheet_fails _ _ _ (sheet_fails _ _ _ (sheet_fails _ _ _ c.in_err-fit_p.ensures.refused))))))

pub returns-in_err-refuse_unless-clause-refused : goal.returns-in_err-refuse_unless-clause-refused
returns-in_err-refuse_unless-clause-refused c =
    let r = c.from_residual-in_err-refuse_unless in
    let p = err_from_is_err_and r.result r.ensures.1 in
    rw (p.1, p.2)
    (second_met _ _ _ c.in_ok-fit_g.ensures.refused
    (first_of_six _ _ _ _ _ _ _ c.in_ok-fit_p.ensures.refused
    (rw (
      c.clock_fits.ensures,
      c.electrolyte_fits.ensures,
      c.solid_fits-2.ensures,
      c.solid_fits.ensures,
      c.limits_fit.ensures,
      c.used_electrolyte.ensures.value,
      c.used_solid-2.ensures.value,
      c.used_solid.ensures.value,
      c.n_x_pos.ensures,
      c.n_x_neg.ensures,
      c.in_ok-fit_g.ensures.same,
    ) at c.in_err-refuse_unless.ensures)))

pub returns-clause-refused : goal.returns-clause-refused
returns-clause-refused c =
    second_met _ _ _ c.in_ok-fit_g.ensures.refused
    (first_of_six _ _ _ _ _ _ _ c.in_ok-fit_p.ensures.refused
    (rw (
      c.clock_fits.ensures,
      c.electrolyte_fits.ensures,
      c.solid_fits-2.ensures,
      c.solid_fits.ensures,
      c.limits_fit.ensures,
      c.used_electrolyte.ensures.value,
      c.used_solid-2.ensures.value,
      c.used_solid.ensures.value,
      c.n_x_pos.ensures,
      c.n_x_neg.ensures,
      c.in_ok-fit_g.ensures.same,
    ) at c.in_ok-refuse_unless.ensures))
