-- THEOREMS 2 AND 3 for cycles of phases: the cell that a cycle leaves is near the exact scheme, and of two cycles whose rows are paired the one with the greater currents leaves more in the
-- cathode and less in the anode: proofs/CycleDemand. Here the bound that is asked of the phases. Definitions only.
use Rattle.std.specs.Prelude.{ℕ, ◌<◌, List}
use Rattle.diffusion.specs.Premises.{FluxBound}
use Rattle.solver.specs.declared.SpmSolver.{SpmSolver}
use Rattle.cycle_run.specs.declared.phases.Phase.{Phase}
use Rattle.cycle_run.specs.declared.CycleSettings.{CycleSettings}
use Rattle.cycle_run.specs.Phases.{phase_at}
use Rattle.solver_laws.specs.Electrodes.{Electrode}
use Rattle.solver_laws.specs.Demand.{numbers_at}
use Rattle.solver_laws.specs.CycleCalls.{call_of}

-- the call of each of the first `count` phases keeps 2·h·∣flux∣ ≤ D·M at an electrode
abbrev pub PhaseFluxBounds : Electrode → List Phase → CycleSettings → SpmSolver → Type 0
PhaseFluxBounds e l g s = (k : ℕ) → k < g.count → FluxBound (numbers_at e s (call_of g (phase_at l k)))
