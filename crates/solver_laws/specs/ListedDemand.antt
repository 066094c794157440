-- THEOREMS 2 AND 3 for cells that lists of accepted calls leave (`Listed`), as runs, replays and cycles do: proofs/ListedDemand. Here what they ask and give. Definitions only.
use Rattle.std.specs.Prelude.{ℕ, ◌<◌, List}
use Rattle.fraction.specs.Fraction.{nat, pow2, ◌+F◌, ◌-F◌, ◌*F◌, ◌/F◌, ◌≤F◌}
use Rattle.binary64.specs.Value.{val}
use Rattle.diffusion.specs.Premises.{FluxBound}
use Rattle.diffusion.specs.Run.{Each}
use Rattle.particle.specs.Particle.{place_of}
use Rattle.solver.specs.declared.SpmSolver.{SpmSolver}
use Rattle.solver_laws.specs.Electrodes.{Electrode}
use Rattle.solver_laws.specs.Demand.{Call, numbers_at}

-- each call of a list keeps 2·h·∣flux∣ ≤ D·M at an electrode
abbrev pub FluxBounds : Electrode → SpmSolver → List Call → Type 0
FluxBounds e s qs = Each (λ q. FluxBound (numbers_at e s q)) qs

-- what ranks two cells r and r' after k sub-steps from twins of s: at no place of the cathode is the second more than 2·k·M / 2 ^ 49 below, and at no place of the anode more than that above
pub record CellsRanked (s r r' : SpmSolver) (k : ℕ) : Type 0 where
  pub cathode : (i : ℕ) → i < s.config.n_nodes → val (place_of r.cathode i) -F nat 2 *F nat k *F val s.cathode.params.c_s_max /F pow2 49 ≤F val (place_of r'.cathode i)
  pub anode : (i : ℕ) → i < s.config.n_nodes → val (place_of r'.anode i) ≤F val (place_of r.anode i) +F nat 2 *F nat k *F val s.anode.params.c_s_max /F pow2 49
