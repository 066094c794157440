-- `electrolyte::ElectrolyteState::step_concentration` meets its contract: past the first test the counts are in range, so the places are there. Assumes nothing.
use Rattle.std.proofs.Common.{sym}
use Rattle.electrolyte.specs.State.{step_params}
use Rattle.electrolyte.specs.Accepted.{step_total}
use Rattle.electrolyte.proofs.ElectrolyteState.step_concentration.Goals as goal

pub step_params-requires : goal.step_params-requires
step_params-requires c = step_total _ _ _ _ _ (sym c.in_ok-check_step.ensures)

pub advanced-new-requires : goal.advanced-new-requires
unfolding step_params
advanced-new-requires c = rw c.step_params.ensures (step_total _ _ _ _ _ (sym c.in_ok-check_step.ensures))
