-- THEOREM 3 of the third demand: of two lists of calls the one with the greater currents leaves more in the cathode and less in the anode, but for the roundings: its statement, `SolverRanking`,
-- which proofs/Ranking proves (`solver_ranking`). Definitions only.
use Rattle.std.specs.Prelude.{ℕ, ◌<◌, ◌≡◌, List, T}
use Rattle.std.specs.Float.Ieee.{le}
use Rattle.fraction.specs.Fraction.{nat, pow2, ◌+F◌, ◌-F◌, ◌*F◌, ◌/F◌, ◌≈F◌, ◌≤F◌}
use Rattle.binary64.specs.Value.{val}
use Rattle.diffusion.specs.Run.{Both}
use Rattle.particle.specs.Particle.{place_of}
use Rattle.solver.specs.declared.SpmSolver.{SpmSolver}
use Rattle.solver.specs.Cell.{cell_refusal}
use Rattle.solver_laws.specs.Electrodes.{Electrode, particle_at}
use Rattle.solver_laws.specs.Demand.{Call, taken, K, FluxBoundAt, place}

-- two accepted calls: alike in interval and temperature, the second's current no less
pub record Paired (q q' : Call) : Type 0 where
  pub dt : q'.dt ≡ q.dt
  pub temp : q'.temp ≡ q.temp
  pub current : T (le q.current q'.current)

-- ---- two cells of one make
-- the same config and sheets, and node by node the same numbers; the clocks may differ
pub record Twins (s s' : SpmSolver) : Type 0 where
  pub config : s'.config ≡ s.config
  pub sheet : (e : Electrode) → (particle_at e s').params ≡ (particle_at e s).params
  pub nodes : (e : Electrode) (i : ℕ) → i < s.config.n_nodes → val (place_of (particle_at e s') i) ≈F val (place_of (particle_at e s) i)

-- what ranks: at no place of the cathode is the second list's value more than 2·K·M / 2 ^ 49 below, and at no place of the anode more than that above
pub record Ranked (s s' : SpmSolver) (qs qs' : List Call) : Type 0 where
  pub count : K s' qs' ≡ K s qs
  pub cathode : (i : ℕ) → i < s.config.n_nodes → place Electrode.cathode s qs i -F nat 2 *F nat (K s qs) *F val s.cathode.params.c_s_max /F pow2 49 ≤F place Electrode.cathode s' qs' i
  pub anode : (i : ℕ) → i < s.config.n_nodes → place Electrode.anode s' qs' i ≤F place Electrode.anode s qs i +F nat 2 *F nat (K s qs) *F val s.anode.params.c_s_max /F pow2 49

-- THEOREM 3. Two cells of one make with equal profiles pass the checks; the accepted calls of each list keep 2·h·∣flux∣ ≤ D·M at both electrodes; the accepted calls, in order, are equally many and
-- paired: alike in interval and temperature, the second's current no less. Refused calls may stand anywhere in either list.
abbrev pub SolverRanking : Type 0
SolverRanking = (s s' : SpmSolver) (qs qs' : List Call) → cell_refusal s ≡ 0 → cell_refusal s' ≡ 0 → Twins s s'
    → ((e : Electrode) → FluxBoundAt e s qs) → ((e : Electrode) → FluxBoundAt e s' qs') → Both Paired (taken s qs) (taken s' qs') → Ranked s s' qs qs'
