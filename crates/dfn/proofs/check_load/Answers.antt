-- `dfn::check_load` meets its contract. Assumes nothing.
use Rattle.std.proofs.lemmas.Result.{err_from_is_err_and}
use Rattle.dfn.proofs.Refusals.{first_met, second_met}
use Rattle.dfn.proofs.check_load.Goals as goal

pub returns-in_err-refuse_unless : goal.returns-in_err-refuse_unless
returns-in_err-refuse_unless c =
    let p = err_from_is_err_and c.from_residual.result c.from_residual.ensures.1 in
    rw (p.1, p.2) (first_met _ _ _ (rw c.load_fits.ensures at c.in_err-refuse_unless.ensures))

pub returns : goal.returns
returns c =
    second_met _ _ _ (rw c.load_fits.ensures at c.in_ok-refuse_unless.ensures) (rw c.interval_fits.ensures at c.refuse_unless-2.ensures)
