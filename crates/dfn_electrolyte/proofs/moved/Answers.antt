-- `dfn_electrolyte::moved` meets its contract. Assumes nothing.
use Rattle.dfn_electrolyte.specs.Electrolyte.{moved_with}
use Rattle.dfn_electrolyte.proofs.moved.Goals as goal

pub returns : goal.returns
unfolding moved_with
returns c =
    rw (c.flow-right.ensures, c.flow-left.ensures)
