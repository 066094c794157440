-- `electrode::ElectrodeParams::fits` meets its contract. Assumes nothing.
use Rattle.refusal.specs.EqualParts.{◌both◌}
use Rattle.electrode.proofs.ElectrodeParams.fits.Goals as goal

pub returns : goal.returns
returns c =
    c.is_chemistry.ensures
    both c.within.ensures
    both c.within-2.ensures
    both c.within-3.ensures
    both c.within-4.ensures
    both c.within-5.ensures
    both c.within-6.ensures
    both c.within-7.ensures
    both c.within-8.ensures
    both c.within-9.ensures
    both c.within-10.ensures
