-- `dfn_parameters::Side::fits` meets its contract. Assumes nothing.
use Rattle.refusal.specs.EqualParts.{◌both◌}
use Rattle.dfn_parameters.proofs.Side.fits.Goals as goal

pub returns : goal.returns
returns c =
    c.within.ensures
    both c.within-2.ensures
    both c.within-3.ensures
    both c.within-4.ensures
    both c.within-5.ensures
    both c.within-6.ensures
    both c.within-7.ensures
