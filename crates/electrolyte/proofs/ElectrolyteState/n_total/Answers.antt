-- `electrolyte::ElectrolyteState::n_total` meets its contract: past the first test the counts are in range, so they can be added up. Assumes nothing.
use Rattle.std.proofs.Common.{sym}
use Rattle.electrolyte.specs.Accepted.{build_total}
use Rattle.electrolyte.proofs.ElectrolyteState.n_total.Goals as goal

pub nodes-n-requires : goal.nodes-n-requires
nodes-n-requires c = build_total _ (sym c.in_ok-check_build.ensures)
