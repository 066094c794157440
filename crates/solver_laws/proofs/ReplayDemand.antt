-- THEOREMS 2 AND 3 for replays of recorded loads: the cell that a replay leaves is near the exact scheme, and of two replays the one with the greater currents leaves more in the cathode
-- and less in the anode. Assumes nothing.
use Rattle.std.specs.Prelude.{ℕ, zero, suc, ◌<◌, ◌≡◌, List, [], ◌∷◌, ◌++◌, Float}
use Rattle.std.proofs.Common.{arith}
use Rattle.fraction.specs.Fraction.{nat, pow2, ◌-F◌, ◌*F◌, ◌/F◌, ◌within◌}
use Rattle.binary64.specs.Value.{val}
use Rattle.diffusion.specs.Premises.{FluxBound}
use Rattle.diffusion.specs.Run.{Each, Both}
use Rattle.particle.specs.Particle.{place_of}
use Rattle.solver.specs.declared.SpmSolver.{SpmSolver}
use Rattle.solver.specs.Cell.{cell_refusal}
use Rattle.replay_run.specs.Replay.{replayed}
use Rattle.solver_laws.specs.Electrodes.{Electrode, particle_at}
use Rattle.solver_laws.specs.Demand.{Call, K, numbers_at, exact_place}
use Rattle.solver_laws.specs.Ranking.{Paired, Twins}
use Rattle.solver_laws.specs.AcceptedLists.{each_append}
use Rattle.solver_laws.specs.ListedDemand.{FluxBounds, CellsRanked}
use Rattle.solver_laws.proofs.ListedDemand.{listed_near, listed_ranked}
use Rattle.solver_laws.specs.ReplayCalls.{call_at, calls_of}
use Rattle.solver_laws.proofs.ReplayLists.{replayed_listed}
use Rattle.solver_laws.specs.ReplayDemand.{LineFluxBounds}

-- ---- what holds of each line holds of the list
both_append : {A : Type 0} {R : A → A → Type 0} {xs ys : List A} {x y : A} → Both R xs ys → R x y → Both R (xs ++ x ∷ []) (ys ++ y ∷ [])
both_append Both.none p = Both.more p Both.none
both_append (Both.more q qs) p = Both.more q (both_append qs p)

each_line : (P : Call → Type 0) (text : List ℕ) (temp : Float) (n : ℕ) → ((j : ℕ) → j < n → P (call_at text temp j)) → Each P (calls_of text temp n)
unfolding calls_of
each_line P text temp zero h = Each.none
each_line P text temp (suc n) h = each_append (each_line P text temp n (λ j l. h j (omega (arith, l)))) (Each.more (h n (omega arith)) Each.none)

both_lines : (R : Call → Call → Type 0) (text text' : List ℕ) (temp : Float) (n : ℕ) → ((j : ℕ) → j < n → R (call_at text temp j) (call_at text' temp j))
    → Both R (calls_of text temp n) (calls_of text' temp n)
unfolding calls_of
both_lines R text text' temp zero h = Both.none
both_lines R text text' temp (suc n) h = both_append (both_lines R text text' temp n (λ j l. h j (omega (arith, l)))) (h n (omega arith))

line_bounds : (e : Electrode) (text : List ℕ) (temp : Float) (s : SpmSolver) (places : ℕ) → LineFluxBounds e text temp s places
    → FluxBounds e s (calls_of text temp (replayed text temp s places).rows)
line_bounds e text temp s places h = each_line (λ q. FluxBound (numbers_at e s q)) text temp (replayed text temp s places).rows h

-- THEOREM 2 for a replay. The cell passes the checks; at the electrode e each line that has a row keeps 2·h·∣flux∣ ≤ D·M. Then every node of e in the cell that the replay leaves is
-- within K·M / 2 ^ 49 of the exact scheme from the same start over these lines, K the sub-steps that their steps report.
pub replay_near : (e : Electrode) (text : List ℕ) (temp : Float) (s : SpmSolver) (places : ℕ) → cell_refusal s ≡ 0 → LineFluxBounds e text temp s places
    → (i : ℕ) → i < (particle_at e s).n_nodes
    → val (place_of (particle_at e (replayed text temp s places).solver) i) -F exact_place e s (calls_of text temp (replayed text temp s places).rows) i
    within nat (K s (calls_of text temp (replayed text temp s places).rows)) *F val (particle_at e s).params.c_s_max /F pow2 49
replay_near e text temp s places h k i l =
    listed_near e s (replayed text temp s places).solver (calls_of text temp (replayed text temp s places).rows) (replayed_listed text temp s places) h (line_bounds e text temp s places k) i l

-- THEOREM 3 for two replays at one temperature. Two cells of one make with equal profiles pass the checks; the replays have equally many rows, their lines keep 2·h·∣flux∣ ≤ D·M at both
-- electrodes and are paired: alike in interval, the second's current no less.
pub replay_ranked : (text text' : List ℕ) (temp : Float) (s s' : SpmSolver) (places places' : ℕ) → cell_refusal s ≡ 0 → cell_refusal s' ≡ 0 → Twins s s'
    → ((e : Electrode) → LineFluxBounds e text temp s places) → ((e : Electrode) → LineFluxBounds e text' temp s' places')
    → (replayed text' temp s' places').rows ≡ (replayed text temp s places).rows
    → ((j : ℕ) → j < (replayed text temp s places).rows → Paired (call_at text temp j) (call_at text' temp j))
    → CellsRanked s (replayed text temp s places).solver (replayed text' temp s' places').solver (K s (calls_of text temp (replayed text temp s places).rows))
replay_ranked text text' temp s s' places places' h h' w ks ks' n ps =
    let qs = calls_of text temp (replayed text temp s places).rows in
    let qs' = calls_of text' temp (replayed text' temp s' places').rows in
    let pairs : Both Paired qs qs' = rw n (both_lines Paired text text' temp (replayed text temp s places).rows ps) in
    listed_ranked s s' (replayed text temp s places).solver (replayed text' temp s' places').solver qs qs' (replayed_listed text temp s places) (replayed_listed text' temp s' places') h h' w
    (λ e. line_bounds e text temp s places (ks e)) (λ e. line_bounds e text' temp s' places' (ks' e)) pairs
