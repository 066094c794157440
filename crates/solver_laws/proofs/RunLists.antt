-- The rows of a run are a list of the solver's calls, so theorem 2 holds of the cell that the run leaves, and theorem 3 of those that two runs leave. Assumes nothing.
use Rattle.std.specs.Prelude.{ℕ, zero, suc, ◌*◌, ◌/◌, ◌≡◌, Bool, cond, eqb, replicate}
use Rattle.std.proofs.Math.Path.{refl}
use Rattle.std.proofs.Common.{sym, ap, ◌∙◌, zero-mul, suc-mul, add_comm}
use Rattle.std.proofs.Math.Bool.{true, false}
use borrow.Author.Tests.{eqb-true, eqb-false}
use Rattle.std.proofs.Math.ListN.{replicate-append-replicate}
use Rattle.diffusion.specs.Premises.{FluxBound}
use Rattle.diffusion.proofs.Copies.{each_copies}
use Rattle.diffusion.specs.Run.{Both}
use Rattle.runs.specs.Laws.{run_keeps}
use Rattle.runs.specs.Lowest.{Room}
use Rattle.solver.specs.declared.SpmSolver.{SpmSolver}
use Rattle.solver_step.specs.Plans.{sub_steps_of}
use Rattle.discharge_run.specs.declared.RunSettings.{RunSettings}
use Rattle.discharge_run.specs.States.{RunState}
use Rattle.discharge_run.specs.Discharge.{over_of, last_row_of, started, followed, turned, finished_run, all_turns, run_refusal, refused_run, discharged}
use Rattle.solver_laws.specs.Electrodes.{Electrode}
use Rattle.solver_laws.specs.Closure.{step_refused, step_count}
use Rattle.solver_laws.specs.Demand.{Call, answer, cell_after, taken, K, plan_for, numbers_at, Inv, itself, stays, same_plan}
use Rattle.solver_laws.specs.AcceptedLists.{AllAccepted, all_taken, Listed, listed_none, listed_more}
use Rattle.solver_laws.specs.Ordered.{both_copied}
use Rattle.solver_laws.specs.Ranking.{Paired, Twins}
use Rattle.solver_laws.specs.ListedDemand.{CellsRanked}
use Rattle.solver_laws.proofs.ListedDemand.{listed_near, listed_ranked}
use Rattle.solver_laws.specs.RunLists.{RunNear, call_of, calls_of, run_passes}

-- ---- the turns of a run: its cell is that after a call for each row, all of them accepted
module _ (w : RunSettings) (s : SpmSolver) where
  followed_listed : (r : RunState) (b : Bool) → eqb (answer r.solver (call_of w)).refusal 0 ≡ b → Listed s r.solver (replicate r.rows (call_of w))
      → Listed s (followed w r (answer r.solver (call_of w))).solver (replicate (followed w r (answer r.solver (call_of w))).rows (call_of w))
  unfolding followed
  followed_listed r true e l =
      let h = eqb-true (answer r.solver (call_of w)).refusal 0 e in
      rw (e, ← replicate-append-replicate r.rows 1 (call_of w)) (listed_more s r.solver (replicate r.rows (call_of w)) (call_of w) l h)
  followed_listed r false e l =
      let n = eqb-false (answer r.solver (call_of w)).refusal 0 e in
      rw (e, (step_refused r.solver w.current_a w.dt w.temp_k n).0) l

  turned_listed : (r : RunState) → Listed s r.solver (replicate r.rows (call_of w)) → Listed s (turned w r).solver (replicate (turned w r).rows (call_of w))
  unfolding turned
  turned_listed r l = followed_listed r (eqb (answer r.solver (call_of w)).refusal 0) refl l

  turns_listed : (total : ℕ) → Listed s (all_turns w (started w s) total).solver (replicate (all_turns w (started w s) total).rows (call_of w))
  unfolding all_turns finished_run started
  turns_listed total =
      run_keeps over_of (turned w) last_row_of (started w s) (λ (r : RunState). Listed s r.solver (replicate r.rows (call_of w))) (λ r o l. turned_listed r l) (listed_none s) total

  discharged_listed : (places : Room) → Listed s (discharged w s places).solver (calls_of w s places)
  unfolding discharged
  discharged_listed places = go (eqb (run_refusal w s places) 0)
    where
      go : (b : Bool) → Listed s (cond b (all_turns w (started w s) (places.rows / 8)) (refused_run (run_refusal w s places) s)).solver
          (replicate (cond b (all_turns w (started w s) (places.rows / 8)) (refused_run (run_refusal w s places) s)).rows (call_of w))
      go true = turns_listed (places.rows / 8)
      go false = listed_none s

-- THE CELL THAT A RUN LEAVES is the cell after one call of `step` for each row; a run that is refused as a whole has no rows
pub run_is_list : (w : RunSettings) (s : SpmSolver) (places : Room) → (discharged w s places).solver ≡ cell_after s (calls_of w s places)
run_is_list w s places = (discharged_listed w s places).cell

-- and each of them is accepted
pub run_accepted : (w : RunSettings) (s : SpmSolver) (places : Room) → taken s (calls_of w s places) ≡ calls_of w s places
run_accepted w s places = all_taken (discharged_listed w s places).accepted

-- ---- THEOREMS 2 AND 3 for runs
-- the count of sub-steps is the same at each call
all_counted : (s : SpmSolver) (q : Call) (n : ℕ) (r : SpmSolver) → Inv s r → AllAccepted r (replicate n q) → K r (replicate n q) ≡ n * sub_steps_of (plan_for s q)
unfolding K
all_counted s q zero r v a = sym (zero-mul (sub_steps_of (plan_for s q)))
all_counted s q (suc n) r v (AllAccepted.more h a) =
    let k = sub_steps_of (plan_for s q) in
    let c = step_count r q.current q.dt q.temp h ∙ ap sub_steps_of (same_plan s r q v.make) in
    rw (c, all_counted s q n (answer r q).solver (stays s r q v) a, suc-mul n k) (add_comm k (n * k))

-- THEOREM 2 for a run
pub run_near : RunNear
run_near e w s places h k i l =
    let c = run_passes w s places h in
    let n = (discharged w s places).rows in
    let k' = each_copies (λ q. FluxBound (numbers_at e s q)) (call_of w) n k in
    let near = listed_near e s (discharged w s places).solver (calls_of w s places) (discharged_listed w s places) c k' i l in
    rw (all_counted s (call_of w) n s (itself s c) (discharged_listed w s places).accepted) at near

-- THEOREM 3 for two runs. Nothing refuses either as a whole; two cells of one make with equal profiles; the steps of each keep 2·h·∣flux∣ ≤ D·M at both electrodes; the rows are equally many,
-- and the steps paired: alike in interval and temperature, the second's current no less.
pub run_ranked : (w w' : RunSettings) (s s' : SpmSolver) (places places' : Room) → run_refusal w s places ≡ 0 → run_refusal w' s' places' ≡ 0 → Twins s s'
    → ((e : Electrode) → FluxBound (numbers_at e s (call_of w))) → ((e : Electrode) → FluxBound (numbers_at e s' (call_of w')))
    → (discharged w' s' places').rows ≡ (discharged w s places).rows → Paired (call_of w) (call_of w')
    → CellsRanked s (discharged w s places).solver (discharged w' s' places').solver ((discharged w s places).rows * sub_steps_of (plan_for s (call_of w)))
run_ranked w w' s s' places places' h h' t bs bs' m p =
    let c = run_passes w s places h in
    let n = (discharged w s places).rows in
    let n' = (discharged w' s' places').rows in
    let pairs : Both Paired (calls_of w s places) (calls_of w' s' places') = rw m (both_copied Paired (call_of w) (call_of w') n p) in
    let ranked =
    listed_ranked s s' (discharged w s places).solver (discharged w' s' places').solver (calls_of w s places) (calls_of w' s' places') (discharged_listed w s places) (discharged_listed w' s' places')
    c (run_passes w' s' places' h') t (λ e. each_copies (λ q. FluxBound (numbers_at e s q)) (call_of w) n (bs e)) (λ e. each_copies (λ q. FluxBound (numbers_at e s' q)) (call_of w') n' (bs' e)) pairs in
    rw (all_counted s (call_of w) n s (itself s c) (discharged_listed w s places).accepted) at ranked
