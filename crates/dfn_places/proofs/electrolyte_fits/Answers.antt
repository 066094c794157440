-- `dfn_places::electrolyte_fits` meets its contract: the array has 33 places. Assumes nothing.
use mathlib.Core.Path.{◌≡◌}
use lib.ListN.{length}
use borrow.Author.Rules.{rules}
use Rattle.dfn_places.specs.Places.{electrolyte_fits}
use Rattle.dfn_places.proofs.electrolyte_fits.Goals as goal

pub returns : goal.returns
unfolding electrolyte_fits
returns c =
    let e : length c.args.c.now ≡ 33 = search rules in rw e at c.places_fit.ensures
