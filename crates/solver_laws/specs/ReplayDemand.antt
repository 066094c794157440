-- THEOREMS 2 AND 3 for replays of recorded loads: the cell that a replay leaves is near the exact scheme, and of two replays the one with the greater currents leaves more in the cathode
-- and less in the anode: proofs/ReplayDemand. Here the bound that is asked of the lines. Definitions only.
use Rattle.std.specs.Prelude.{ℕ, ◌<◌, List, Float}
use Rattle.diffusion.specs.Premises.{FluxBound}
use Rattle.solver.specs.declared.SpmSolver.{SpmSolver}
use Rattle.replay_run.specs.Replay.{replayed}
use Rattle.solver_laws.specs.Electrodes.{Electrode}
use Rattle.solver_laws.specs.Demand.{numbers_at}
use Rattle.solver_laws.specs.ReplayCalls.{call_at}

-- each line that has a row keeps 2·h·∣flux∣ ≤ D·M at an electrode
abbrev pub LineFluxBounds : Electrode → List ℕ → Float → SpmSolver → ℕ → Type 0
LineFluxBounds e text temp s places = (j : ℕ) → j < (replayed text temp s places).rows → FluxBound (numbers_at e s (call_at text temp j))
