-- `electrolyte::ElectrolyteState::c_avg` meets its contract: n is how many nodes there are. Assumes nothing.
use Rattle.electrolyte.specs.State.{average_of}
use Rattle.electrolyte.specs.Calls.{c_avg_of}
use Rattle.electrolyte.specs.Accepted.{counted_total, state_total}
use Rattle.electrolyte.proofs.ElectrolyteState.c_avg.Goals as goal

pub sum-requires : goal.sum-requires
sum-requires c =
    let n = counted_total _ _ c.in_ok-n.ensures in rw n.1 (state_total _ n.0)

pub returns : goal.returns
unfolding c_avg_of average_of
returns c =
    let n = counted_total _ _ c.in_ok-n.ensures in
    rw (c.finite_or_refused.ensures, c.per_node.ensures, c.sum.ensures, n.1, n.0)
