-- `cell_calls::cycle` meets its contract: where a kind is not listed the answer is as it was. Assumes nothing.
use Rattle.std.proofs.Common.{ℕ, zero, suc, ◌≡◌, refl, sym, ap, ◌∙◌, false, List, Ok, Err}
use Rattle.std.specs.Prelude.{Result}
use Rattle.std.specs.Result.{result_and}
use Rattle.refusal.specs.declared.Refusal.{Refusal}
use Rattle.refusal.specs.Refusals.{refusal_of}
use Rattle.std.proofs.Math.Dec.{eqb-suc-zero}
use Rattle.refusal.specs.Numbers as N
use Rattle.solver.specs.declared.SpmSolver.{SpmSolver}
use Rattle.discharge_run.specs.Discharge.{RunOutcome, refused_run}
use Rattle.cycle_run.specs.declared.CycleSettings.{CycleSettings}
use Rattle.cycle_run.specs.Cycle as Y
use Rattle.cell_calls.specs.Phases.{kinds_fit}
use Rattle.cell_calls.specs.Runs.{run_written, cycled_from, cycle_return, cycle_rows, cycle_after}
use Rattle.cell_calls.proofs.cycle.Goals as goal

-- a cycle that a kind refuses, k before it, writes no answer
refused : (k : ℕ) (c : SpmSolver) (a : List ℕ) → a ≡ run_written (refused_run (N.first_refusal k N.sheet) c) a
unfolding run_written N.first_refusal
refused zero c a = refl
refused (suc k) c a = rw (eqb-suc-zero k, eqb-suc-zero k)

-- 2 after what the test before it has met
first_met : (k : ℕ) → suc k ≡ N.first_refusal (suc k) N.sheet
unfolding N.first_refusal
first_met k = rw (eqb-suc-zero k)

kind_last : {A : Type 0} (r q : Result A Refusal) → refusal_of q ≡ N.sheet → refusal_of (result_and r q) ≡ N.first_refusal (refusal_of r) N.sheet
unfolding N.first_refusal
kind_last (Ok x) q e = e
kind_last (Err x) q e = first_met _

-- where the test of the kinds fails
module _ (phases : List ℕ) (g : CycleSettings) (c : SpmSolver) (places k : ℕ) (kind : kinds_fit phases g.count ≡ false) (before : k ≡ Y.counts_refusal g c places) where
  run_is : refused_run (N.first_refusal k N.sheet) c ≡ cycled_from phases g c places
  unfolding cycled_from
  run_is = rw (kind, before)

  number_is : N.first_refusal k N.sheet ≡ (cycled_from phases g c places).ended.refusal
  number_is = ap (λ (r : RunOutcome). r.ended.refusal) run_is

  unwritten : (a : List ℕ) → a ≡ run_written (cycled_from phases g c places) a
  unwritten a = refused k c a ∙ ap (λ (r : RunOutcome). run_written r a) run_is

pub returns : goal.returns
unfolding cycle_return cycle_rows cycle_after
returns c =
    let a = c.args in
    let kind = sym c.kinds_fit.ensures ∙ c.if-kinds_fit.false in
    let before = rw c.cell_at-s.ensures at c.check_counts.ensures in
    let last = ap refusal_of c.and.ensures ∙ kind_last _ _ refl in
    record { number = last ∙ number_is a.phases.now _ _ _ _ kind before; rows = rw kind; written = unwritten a.phases.now _ _ _ _ kind before a.answer.now }
