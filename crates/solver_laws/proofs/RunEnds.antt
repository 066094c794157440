-- A run of the cell is refused before its first row or not at all: one that has a row ends by the voltage, the time or a full table. Assumes nothing.
use Rattle.std.specs.Prelude.{ℕ, zero, suc, ◌/◌, ◌≤◌, ◌≡◌, Bool, cond, T, eqb, Float}
use Rattle.std.proofs.Math.Path.{refl}
use Rattle.std.proofs.Math.Bool.{true, false}
use Rattle.std.proofs.Common.{arith, lit≤}
use borrow.Author.Tests.{eqb-true, eqb-false}
use Rattle.std.specs.Float.Ieee.{binary64, fits}
use Rattle.std.specs.Float.Ieee.Fits.{add-fits}
use Rattle.runs.specs.Endings.{by_refusal, ending_of}
use Rattle.runs.specs.Laws.{run_keeps}
use Rattle.runs.specs.Lowest.{Room}
use Rattle.solver.specs.declared.SpmSolver.{SpmSolver}
use Rattle.discharge_run.specs.declared.RunSettings.{RunSettings}
use Rattle.discharge_run.specs.States.{RunState}
use Rattle.discharge_run.specs.Discharge.{over_of, last_row_of, time_over, over_after, started, followed, turned, finished_run, all_turns, run_refusal, refused_run, discharged}
use Rattle.solver_laws.specs.Closure.{step_refused, step_clock}
use Rattle.solver_laws.proofs.Clock.{step_again}
use Rattle.solver_laws.specs.Demand.{answer}
use Rattle.solver_laws.specs.RunLists.{call_of}

-- going on, by the voltage or by the time
over_most : (w : RunSettings) (cutoff : Bool) (clock : Float) → over_after w cutoff clock ≤ 2
unfolding over_after
over_most w true clock = lit≤ tt
over_most w false clock = go (time_over w clock)
  where
    go : (b : Bool) → cond b 2 0 ≤ 2
    go true = lit≤ tt
    go false = lit≤ tt

-- what has gone on so far ends otherwise than refused
ending_other : (over k : ℕ) → over ≤ 2 → (ending_of over k).ending ≡ by_refusal → ⊥
unfolding ending_of
ending_other zero k l e = omega (arith, e)
ending_other (suc zero) k l e = omega (arith, e)
ending_other (suc (suc zero)) k l e = omega (arith, e)
ending_other (suc (suc (suc n))) k l e = omega (arith, l)

module _ (w : RunSettings) where
  -- a run that has a row is not refused, and its next step is accepted
  record RunInvariant (r : RunState) : Type 0 where
    ended : (r.rows ≡ 0 → ⊥) → r.over ≤ 2
    next : (r.rows ≡ 0 → ⊥) → (answer r.solver (call_of w)).refusal ≡ 0
    clock : T (fits binary64 r.solver.time_s)

  followed_invariant : (r : RunState) (b : Bool) → eqb (answer r.solver (call_of w)).refusal 0 ≡ b → RunInvariant r → RunInvariant (followed w r (answer r.solver (call_of w)))
  unfolding followed
  followed_invariant r true e c =
      let h = eqb-true (answer r.solver (call_of w)).refusal 0 e in
      rw e (record {
        ended = λ n. over_most w _ _;
        next = λ n. step_again r.solver w.current_a w.dt w.temp_k c.clock h;
        clock = rw (step_clock r.solver w.current_a w.dt w.temp_k h) (add-fits binary64 r.solver.time_s w.dt);
      })
  followed_invariant r false e c =
      let n = eqb-false (answer r.solver (call_of w)).refusal 0 e in
      let s = (step_refused r.solver w.current_a w.dt w.temp_k n).0 in
      rw e (record { ended = λ m. absurd (n (c.next m)); next = λ m. absurd (n (c.next m)); clock = rw s c.clock })

  turned_invariant : (r : RunState) → RunInvariant r → RunInvariant (turned w r)
  unfolding turned
  turned_invariant r c = followed_invariant r (eqb (answer r.solver (call_of w)).refusal 0) refl c

  start_invariant : (s : SpmSolver) → T (fits binary64 s.time_s) → RunInvariant (started w s)
  unfolding started
  start_invariant s f = record { ended = λ n. absurd (n refl); next = λ n. absurd (n refl); clock = f }

  turns_end : (s : SpmSolver) (total : ℕ) → T (fits binary64 s.time_s) → ((all_turns w (started w s) total).rows ≡ 0 → ⊥)
      → (all_turns w (started w s) total).ended.ending ≡ by_refusal → ⊥
  unfolding all_turns finished_run
  turns_end s total f n e = ending_other _ _ ((run_keeps over_of (turned w) last_row_of (started w s) RunInvariant (λ r o c. turned_invariant r c) (start_invariant s f) total).ended n) e

-- A RUN THAT HAS A ROW is not refused. The cell's clock is a number of binary64, as each f64 of a program is.
pub run_ends : (w : RunSettings) (s : SpmSolver) (places : Room) → T (fits binary64 s.time_s) → ((discharged w s places).rows ≡ 0 → ⊥)
    → (discharged w s places).ended.ending ≡ by_refusal → ⊥
unfolding discharged
run_ends w s places f = go (eqb (run_refusal w s places) 0)
  where
    go : (b : Bool) → ((cond b (all_turns w (started w s) (places.rows / 8)) (refused_run (run_refusal w s places) s)).rows ≡ 0 → ⊥)
        → (cond b (all_turns w (started w s) (places.rows / 8)) (refused_run (run_refusal w s places) s)).ended.ending ≡ by_refusal → ⊥
    go true n e = turns_end w s (places.rows / 8) f n e
    go false n e = n refl
