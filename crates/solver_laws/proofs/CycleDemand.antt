-- THEOREMS 2 AND 3 for cycles of phases: the cell that a cycle leaves is near the exact scheme, and of two cycles whose rows are paired the one with the greater currents leaves more in the
-- cathode and less in the anode. Assumes nothing.
use Rattle.std.specs.Prelude.{ℕ, ◌<◌, ◌≡◌, List}
use Rattle.std.proofs.Common.{sym, subst}
use Rattle.fraction.specs.Fraction.{nat, pow2, ◌-F◌, ◌*F◌, ◌/F◌, ◌within◌}
use Rattle.binary64.specs.Value.{val}
use Rattle.diffusion.specs.Premises.{FluxBound}
use Rattle.diffusion.specs.Run.{Both}
use Rattle.diffusion.proofs.CallLaws.{each_with}
use Rattle.particle.specs.Particle.{place_of}
use Rattle.solver.specs.declared.SpmSolver.{SpmSolver}
use Rattle.solver.specs.Cell.{cell_refusal}
use Rattle.cycle_run.specs.declared.phases.Phase.{Phase}
use Rattle.cycle_run.specs.declared.CycleSettings.{CycleSettings}
use Rattle.cycle_run.specs.Cycle.{cycled}
use Rattle.solver_laws.specs.Electrodes.{Electrode, particle_at}
use Rattle.solver_laws.specs.Demand.{Call, K, numbers_at, exact_place}
use Rattle.solver_laws.specs.Ranking.{Paired, Twins}
use Rattle.solver_laws.specs.ListedDemand.{FluxBounds, CellsRanked}
use Rattle.solver_laws.proofs.ListedDemand.{listed_near, listed_ranked}
use Rattle.solver_laws.specs.CycleCalls.{calls_of}
use Rattle.solver_laws.proofs.CycleLists.{cycled_listed}
use Rattle.solver_laws.proofs.CyclePhases.{cycle_calls}
use Rattle.solver_laws.specs.CycleDemand.{PhaseFluxBounds}

-- so does each row, whichever phase it is of
phase_bounds : (e : Electrode) (l : List Phase) (g : CycleSettings) (s : SpmSolver) (n : ℕ) → PhaseFluxBounds e l g s → FluxBounds e s (calls_of l g s n)
phase_bounds e l g s n h =
    let qs = cycle_calls l g s n in
    each_with (λ q a b. subst (λ (x : Call). FluxBound (numbers_at e s x)) (sym a.same) (h a.place a.meant)) qs qs

-- THEOREM 2 for a cycle. The cell passes the checks; at the electrode e each of the phases keeps 2·h·∣flux∣ ≤ D·M. Then every node of e in the cell that the cycle leaves is within
-- K·M / 2 ^ 49 of the exact scheme from the same start over its rows' calls, K the sub-steps that their steps report. Nothing is asked of where the phases end.
pub cycle_near : (e : Electrode) (l : List Phase) (g : CycleSettings) (s : SpmSolver) (places : ℕ) → cell_refusal s ≡ 0 → PhaseFluxBounds e l g s
    → (i : ℕ) → i < (particle_at e s).n_nodes
    → val (place_of (particle_at e (cycled l g s places).solver) i) -F exact_place e s (calls_of l g s (cycled l g s places).rows) i
    within nat (K s (calls_of l g s (cycled l g s places).rows)) *F val (particle_at e s).params.c_s_max /F pow2 49
cycle_near e l g s places h k i m =
    let n = (cycled l g s places).rows in
    listed_near e s (cycled l g s places).solver (calls_of l g s n) (cycled_listed l g s places) h (phase_bounds e l g s n k) i m

-- THEOREM 3 for two cycles. Two cells of one make with equal profiles pass the checks; the phases of both cycles keep 2·h·∣flux∣ ≤ D·M at both electrodes; the rows are equally many, and
-- their calls are paired: alike in interval and temperature, the second's current no less.
pub cycle_ranked : (l l' : List Phase) (g g' : CycleSettings) (s s' : SpmSolver) (places places' : ℕ) → cell_refusal s ≡ 0 → cell_refusal s' ≡ 0 → Twins s s'
    → ((e : Electrode) → PhaseFluxBounds e l g s) → ((e : Electrode) → PhaseFluxBounds e l' g' s')
    → Both Paired (calls_of l g s (cycled l g s places).rows) (calls_of l' g' s' (cycled l' g' s' places').rows)
    → CellsRanked s (cycled l g s places).solver (cycled l' g' s' places').solver (K s (calls_of l g s (cycled l g s places).rows))
cycle_ranked l l' g g' s s' places places' h h' w ks ks' ps =
    let n = (cycled l g s places).rows in
    let n' = (cycled l' g' s' places').rows in
    listed_ranked s s' (cycled l g s places).solver (cycled l' g' s' places').solver (calls_of l g s n) (calls_of l' g' s' n') (cycled_listed l g s places) (cycled_listed l' g' s' places') h h' w
    (λ e. phase_bounds e l g s n (ks e)) (λ e. phase_bounds e l' g' s' n' (ks' e)) ps
