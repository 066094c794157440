-- `runs::lowest::room_fits` meets its contract. Assumes nothing.
use Rattle.runs.specs.Lowest.{room_fits_of}
use Rattle.runs.proofs.lowest.room_fits.Goals as goal

pub returns : goal.returns
unfolding room_fits_of
returns c =
    rw c.group_count.ensures
