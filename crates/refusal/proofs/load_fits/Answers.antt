-- `refusal::load_fits` meets its contract. Assumes nothing.
use Rattle.refusal.proofs.load_fits.Goals as goal

pub returns : goal.returns
returns c =
    c.within.ensures
