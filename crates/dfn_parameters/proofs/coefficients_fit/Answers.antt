-- `dfn_parameters::coefficients_fit` meets its contract: the array has 16 places. Assumes nothing.
use mathlib.Core.Path.{◌≡◌}
use lib.ListN.{length}
use borrow.Author.Rules.{rules}
use Rattle.dfn_parameters.specs.Ranges.{coefficients_fit}
use Rattle.dfn_parameters.proofs.coefficients_fit.Goals as goal

pub returns : goal.returns
unfolding coefficients_fit
returns c =
    let e : length c.args.coeffs.now ≡ 16 = search rules in rw (rw e at c.places_fit.ensures)
