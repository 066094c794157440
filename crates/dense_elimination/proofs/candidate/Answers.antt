-- `dense_elimination::candidate` meets its contract. Assumes nothing.
use Rattle.dense_elimination.specs.Elimination.{candidate}
use Rattle.dense_elimination.proofs.candidate.Goals as goal

pub returns : goal.returns
unfolding candidate
returns c =
    rw c.abs.ensures
