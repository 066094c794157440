-- `dfn_places::solid_fits` meets its contract: the array has 512 places. Assumes nothing.
use mathlib.Core.Path.{◌≡◌}
use lib.ListN.{length}
use borrow.Author.Rules.{rules}
use Rattle.dfn_places.specs.Places.{solid_fits}
use Rattle.dfn_places.proofs.solid_fits.Goals as goal

pub returns : goal.returns
unfolding solid_fits
returns c =
    let e : length c.args.c.now ≡ 512 = search rules in rw e at c.places_fit.ensures
