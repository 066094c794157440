-- THEOREMS 2 AND 3 for cells that lists of accepted calls leave (`Listed`), as runs, replays and cycles do. Assumes nothing.
use Rattle.std.specs.Prelude.{ℕ, ◌<◌, List, ◌≡◌}
use Rattle.fraction.specs.Fraction.{nat, pow2, ◌-F◌, ◌*F◌, ◌/F◌, ◌within◌}
use Rattle.binary64.specs.Value.{val}
use Rattle.diffusion.specs.Run.{Both}
use Rattle.particle.specs.Particle.{place_of}
use Rattle.solver.specs.declared.SpmSolver.{SpmSolver}
use Rattle.solver.specs.Cell.{cell_refusal}
use Rattle.solver_laws.specs.Electrodes.{Electrode, particle_at}
use Rattle.solver_laws.specs.Demand.{Call, taken, K, exact_place, FluxBoundAt}
use Rattle.solver_laws.proofs.Demand.{solver_near}
use Rattle.solver_laws.specs.Ranking.{Paired, Twins}
use Rattle.solver_laws.proofs.Ranking.{solver_ranking}
use Rattle.solver_laws.specs.AcceptedLists.{Listed, all_taken}
use Rattle.solver_laws.specs.ListedDemand.{CellsRanked, FluxBounds}

taken_bounds : (e : Electrode) (s r : SpmSolver) (qs : List Call) → Listed s r qs → FluxBounds e s qs → FluxBoundAt e s qs
taken_bounds e s r qs a bs = rw (all_taken a.accepted) bs

-- THEOREM 2: every node of e in the cell r is within K·M / 2 ^ 49 of the exact scheme from the same start over these calls
pub listed_near : (e : Electrode) (s r : SpmSolver) (qs : List Call) → Listed s r qs → cell_refusal s ≡ 0 → FluxBounds e s qs → (i : ℕ) → i < (particle_at e s).n_nodes
    → val (place_of (particle_at e r) i) -F exact_place e s qs i within nat (K s qs) *F val (particle_at e s).params.c_s_max /F pow2 49
listed_near e s r qs a h bs i l = rw a.cell (solver_near e s qs h (taken_bounds e s r qs a bs) i l)

-- THEOREM 3: two cells of one make with equal profiles pass the checks; the calls keep 2·h·∣flux∣ ≤ D·M at both electrodes, and are paired: alike in interval and temperature, the second's
-- current no less
pub listed_ranked : (s s' r r' : SpmSolver) (qs qs' : List Call) → Listed s r qs → Listed s' r' qs' → cell_refusal s ≡ 0 → cell_refusal s' ≡ 0 → Twins s s'
    → ((e : Electrode) → FluxBounds e s qs) → ((e : Electrode) → FluxBounds e s' qs') → Both Paired qs qs' → CellsRanked s r r' (K s qs)
listed_ranked s s' r r' qs qs' a a' h h' w bs bs' ps =
    let pairs : Both Paired (taken s qs) (taken s' qs') = rw (all_taken a.accepted, all_taken a'.accepted) ps in
    let z = solver_ranking s s' qs qs' h h' w (λ e. taken_bounds e s r qs a (bs e)) (λ e. taken_bounds e s' r' qs' a' (bs' e)) pairs in
    record { cathode = λ i l. rw (a.cell, a'.cell) (z.cathode i l); anode = λ i l. rw (a.cell, a'.cell) (z.anode i l) }
