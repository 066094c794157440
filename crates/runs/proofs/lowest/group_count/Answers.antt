-- `runs::lowest::group_count` meets its contract. Assumes nothing.
use Rattle.std.proofs.Common.{arith}
use Rattle.runs.specs.Lowest.{group_count}
use Rattle.runs.proofs.lowest.group_count.Goals as goal

pub returns : goal.returns
unfolding group_count
returns c =
    omega (arith, c.div_ceil.ensures)
