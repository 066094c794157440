-- `electrolyte::ElectrolyteState::new` meets its contract: past the test the counts are in range, so the places are there. Assumes nothing.
use Rattle.std.proofs.Common.{sym, rules}
use Rattle.electrolyte.specs.Accepted.{build_total}
use Rattle.electrolyte.proofs.ElectrolyteState.new.Goals as goal

pub nodes-requires : goal.nodes-requires
nodes-requires c = build_total _ (sym c.in_ok-check_build.ensures)

pub uniform-c_e-requires : goal.uniform-c_e-requires
uniform-c_e-requires c = (search rules, rw c.nodes.ensures (build_total _ (sym c.in_ok-check_build.ensures)))
