-- `refusal::clock_fits` meets its contract by what `is_finite` ensures. Assumes nothing.
use Rattle.refusal.proofs.clock_fits.Goals as goal

pub returns : goal.returns
returns c =
    rw c.is_finite.ensures
