-- `refusal::temperature_fits` meets its contract. Assumes nothing.
use Rattle.refusal.proofs.temperature_fits.Goals as goal

pub returns : goal.returns
returns c =
    c.within.ensures
