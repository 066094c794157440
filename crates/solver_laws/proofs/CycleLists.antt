-- A cycle of phases is a list of the solver's calls, one for each row: row j is the solver's own step with the current of the phase then under way on the cell that the rows before left;
-- and how a cycle ends. Assumes nothing.
use Rattle.std.specs.Prelude.{ℕ, ◌+◌, ◌*◌, ◌≤◌, ◌<◌, ◌≡◌, Bool, List, leb, length, Float}
use Rattle.std.proofs.Math.Path.{refl, ap}
use Rattle.std.proofs.Common.{◌∙◌, arith}
use Rattle.std.proofs.Math.Bool.{true, false}
use borrow.Author.Tests.{eqb-true, eqb-false, eq-eqb, ne_eqb, leb-true, leb-false, le-leb, lt-leb}
use Rattle.std.proofs.Math.Dec.{eqb}
use Rattle.std.proofs.Math.ListN.{get_or}
use Rattle.std.specs.Float.Ieee.{nan}
use Rattle.runs.specs.Endings.{by_refusal, by_done, by_spent}
use Rattle.runs.specs.Rows.{run_after}
use Rattle.runs.specs.RowPlaces.{count_most, row_stands, rows_kept}
use Rattle.solver.specs.declared.SpmSolver.{SpmSolver}
use Rattle.solver_step.specs.declared.report.SpmState.{SpmState}
use Rattle.discharge_run.specs.Discharge.{RunOutcome, row_of, refused_run}
use Rattle.cycle_run.specs.declared.phases.Phase.{Phase}
use Rattle.cycle_run.specs.declared.CycleSettings.{CycleSettings}
use Rattle.cycle_run.specs.Cycle.{none_left_of, turned, over_of, last_row_of, finished_cycle, all_turns, all_rows, cycle_refusal, start_of, cycled, cycled_rows}
use Rattle.cycle_run.specs.Settings.{settings_fit}
use Rattle.solver_laws.specs.Demand.{cell_after, taken}
use Rattle.solver_laws.specs.AcceptedLists.{all_taken, Listed, listed_none}
use Rattle.solver_laws.specs.CycleCalls.{first_ending, made_by, calls_of, phases_left, cycle_step, ended_after, TakenRow}
use Rattle.solver_laws.proofs.CycleTurns.{after_standing, counts, row_by, ended_is, refused_number}
use Rattle.solver_laws.proofs.CycleTurns.{some_phase}
use Rattle.solver_laws.specs.CycleLists.{rows_of, DoneCycle, StepRefused}

module _ (l : List Phase) (g : CycleSettings) (s : SpmSolver) where
  -- a cycle is refused as a whole, or it is its turns
  data Whole (places : ℕ) : Type 0 where
    refused : (cycle_refusal l g s places ≡ 0 → ⊥) → cycled l g s places ≡ refused_run (cycle_refusal l g s places) s → Whole places
    turns : cycle_refusal l g s places ≡ 0 → cycled l g s places ≡ finished_cycle (run_after over_of (turned g) last_row_of g.budget (start_of l g s)) → Whole places

  whole : (places : ℕ) → Whole places
  unfolding cycled all_turns
  whole places = go (eqb (cycle_refusal l g s places) 0) refl
    where
      go : (b : Bool) → eqb (cycle_refusal l g s places) 0 ≡ b → Whole places
      go true e = Whole.turns (eqb-true _ _ e) (rw e)
      go false e = Whole.refused (eqb-false _ _ e) (rw e)

  pub cycled_listed : (places : ℕ) → Listed s (cycled l g s places).solver (calls_of l g s (cycled l g s places).rows)
  unfolding finished_cycle made_by
  cycled_listed places = go (whole places)
    where
      go : Whole places → Listed s (cycled l g s places).solver (calls_of l g s (cycled l g s places).rows)
      go (Whole.refused n e) = rw e (listed_none s)
      go (Whole.turns h e) = rw e (after_standing l g s places h g.budget).listed

  -- THE CELL THAT A CYCLE LEAVES is the cell after one call of `step` for each row, in order. A step that is refused ends the cycle without a row and adds no call; a cycle that is refused
  -- as a whole has no rows.
  pub cycle_is_list : (places : ℕ) → (cycled l g s places).solver ≡ cell_after s (calls_of l g s (cycled l g s places).rows)
  cycle_is_list places = (cycled_listed places).cell

  -- and each of them is accepted
  pub cycle_accepted : (places : ℕ) → taken s (calls_of l g s (cycled l g s places).rows) ≡ calls_of l g s (cycled l g s places).rows
  cycle_accepted places = all_taken (cycled_listed places).accepted

  -- EACH ROW has a phase under way before it, and its step is accepted
  pub cycle_taken : (places j : ℕ) → j < (cycled l g s places).rows → TakenRow l g s j
  unfolding finished_cycle
  cycle_taken places j m = go (whole places) m
    where
      go : Whole places → j < (cycled l g s places).rows → TakenRow l g s j
      go (Whole.refused n e) m = absurd (omega (arith, rw e at m))
      go (Whole.turns h e) m = (row_by l g s places h g.budget j (rw e at m)).1

  -- NO MORE ROWS THAN THE BUDGET, and there was room for them
  pub rows_most : (places : ℕ) → (cycled l g s places).rows ≤ g.budget
  unfolding finished_cycle
  rows_most places = go (whole places)
    where
      go : Whole places → (cycled l g s places).rows ≤ g.budget
      go (Whole.refused n e) = rw e (omega arith)
      go (Whole.turns h e) = rw e (count_most over_of (turned g) last_row_of (start_of l g s) (λ c. c.rows) (counts l g s places h) g.budget)

  pub cycle_room : (places : ℕ) → (cycled l g s places).rows * 8 ≤ places
  cycle_room places = go (whole places)
    where
      go : Whole places → (cycled l g s places).rows * 8 ≤ places
      go (Whole.refused n e) = rw e (omega arith)
      go (Whole.turns h e) = omega (arith, rows_most places, (settings_fit l g s places h).room)

  -- ROW j is that of the solver's own step with the current of the phase then under way, on the cell that the rows before left
  pub cycle_row : (out : List Float) (j m : ℕ) → j < (cycled l g s (length out)).rows → m < 8
      → get_or (cycled_rows l g s out) (j * 8 + m) nan ≡ get_or (row_of (cycle_step l g s j).state) m nan
  unfolding cycled_rows all_rows finished_cycle
  cycle_row out j m p q = go (whole (length out)) p
    where
      go : Whole (length out) → j < (cycled l g s (length out)).rows → get_or (cycled_rows l g s out) (j * 8 + m) nan ≡ get_or (row_of (cycle_step l g s j).state) m nan
      go (Whole.refused n e) p = absurd (omega (arith, rw e at p))
      go (Whole.turns h e) p =
          rw (eq-eqb _ _ h) (
          row_stands over_of (turned g) last_row_of (start_of l g s) (λ c. c.rows) (counts l g s (length out) h) g.budget j m out nan (rw e at p) q (settings_fit l g s (length out) h).room
          ∙ ap (λ (x : SpmState). get_or (row_of x) m nan) (row_by l g s (length out) h g.budget j (rw e at p)).0)

  -- and the places after the last row are as they were
  pub cycle_kept : (out : List Float) (i : ℕ) (d : Float) → (cycled l g s (length out)).rows * 8 ≤ i → get_or (cycled_rows l g s out) i d ≡ get_or out i d
  unfolding cycled_rows all_rows finished_cycle
  cycle_kept out i d p = go (whole (length out)) p
    where
      go : Whole (length out) → (cycled l g s (length out)).rows * 8 ≤ i → get_or (cycled_rows l g s out) i d ≡ get_or out i d
      go (Whole.refused n e) p = rw (ne_eqb _ _ n)
      go (Whole.turns h e) p = rw (eq-eqb _ _ h) (rows_kept over_of (turned g) last_row_of (start_of l g s) (λ c. c.rows) (counts l g s (length out) h) g.budget i out d (rw e at p))

  -- HOW A CYCLE ENDS, by its count of rows: done, spent or refused, and no other ending
  pub cycle_ends : (places : ℕ) → cycle_refusal l g s places ≡ 0 → (cycled l g s places).ended ≡ ended_after l g s (cycled l g s places).rows
  unfolding finished_cycle
  cycle_ends places h = go (whole places)
    where
      go : Whole places → (cycled l g s places).ended ≡ ended_after l g s (cycled l g s places).rows
      go (Whole.refused n e) = absurd (n h)
      go (Whole.turns z e) = rw e (ended_is l g s places z)

  -- one that ends otherwise than refused, or has a row, is not refused as a whole
  not_whole_lem : (places : ℕ) → (cycled l g s places ≡ refused_run (cycle_refusal l g s places) s → ⊥) → cycle_refusal l g s places ≡ 0
  not_whole_lem places n = go (whole places)
    where
      go : Whole places → cycle_refusal l g s places ≡ 0
      go (Whole.refused z e) = absurd (n e)
      go (Whole.turns h e) = h

  pub cycle_begun : (places : ℕ) → ((cycled l g s places).ended.ending ≡ by_refusal → ⊥) → cycle_refusal l g s places ≡ 0
  cycle_begun places n = not_whole_lem places (λ e. n (ap (λ (x : RunOutcome). x.ended.ending) e))

  pub cycle_rowed : (places : ℕ) → ((cycled l g s places).rows ≡ 0 → ⊥) → cycle_refusal l g s places ≡ 0
  cycle_rowed places n = not_whole_lem places (λ e. n (ap (λ (x : RunOutcome). x.rows) e))

  -- ---- the endings, one by one
  -- DONE is the ending where no phase is left: the last one has ended
  pub done_cycle : DoneCycle l g s
  unfolding ended_after
  done_cycle = record { cycle_done = λ places h n. cycle_ends places h ∙ rw n }

  pub cycle_done : (places : ℕ) → cycle_refusal l g s places ≡ 0 → none_left_of (phases_left l g s (rows_of l g s places)) ≡ true → (cycled l g s places).ended ≡ record { ending = by_done; refusal = 0 }
  cycle_done places h n = done_cycle.cycle_done places h n

  -- and only there
  pub cycle_done_only : (places : ℕ) → (cycled l g s places).ended.ending ≡ by_done → none_left_of (phases_left l g s (rows_of l g s places)) ≡ true
  unfolding ended_after
  cycle_done_only places d =
      let h = cycle_begun places (λ z. omega (arith, d, z)) in
      go (none_left_of (phases_left l g s (rows_of l g s places))) (leb g.budget (rows_of l g s places)) (rw (cycle_ends places h) at d)
    where
      go : (b d : Bool) → (first_ending b d (cycle_step l g s (rows_of l g s places)).refusal).ending ≡ by_done → b ≡ true
      go true d e = refl
      go false true e = absurd (omega (arith, e))
      go false false e = absurd (omega (arith, e))

  -- SPENT is the ending where the budget is made and a phase is left, unfinished or to come
  pub cycle_spent : (places : ℕ) → cycle_refusal l g s places ≡ 0 → rows_of l g s places ≡ g.budget → none_left_of (phases_left l g s (rows_of l g s places)) ≡ false
      → (cycled l g s places).ended ≡ record { ending = by_spent; refusal = 0 }
  unfolding ended_after
  cycle_spent places h b n = cycle_ends places h ∙ rw (n, le-leb g.budget (rows_of l g s places) (omega (arith, b)))

  -- and only there
  pub cycle_spent_only : (places : ℕ) → (cycled l g s places).ended.ending ≡ by_spent → (rows_of l g s places ≡ g.budget) × (none_left_of (phases_left l g s (rows_of l g s places)) ≡ false)
  unfolding ended_after
  cycle_spent_only places d =
      let h = cycle_begun places (λ z. omega (arith, d, z)) in
      let a = go (none_left_of (phases_left l g s (rows_of l g s places))) (leb g.budget (rows_of l g s places)) (rw (cycle_ends places h) at d) in
      (omega (arith, rows_most places, leb-true g.budget (rows_of l g s places) a.1), a.0)
    where
      go : (b d : Bool) → (first_ending b d (cycle_step l g s (rows_of l g s places)).refusal).ending ≡ by_spent → (b ≡ false) × (d ≡ true)
      go true d e = absurd (omega (arith, e))
      go false true e = (refl, refl)
      go false false e = absurd (omega (arith, e))

  -- REFUSED, as a whole or by a step: it has the number of a refusal
  pub cycle_refused : (places : ℕ) → (cycled l g s places).ended.ending ≡ by_refusal → (cycled l g s places).ended.refusal ≡ 0 → ⊥
  unfolding finished_cycle
  cycle_refused places f z = go (whole places) f z
    where
      go : Whole places → (cycled l g s places).ended.ending ≡ by_refusal → (cycled l g s places).ended.refusal ≡ 0 → ⊥
      go (Whole.refused n e) f z = n (rw e at z)
      go (Whole.turns h e) f z = refused_number l g s places h (rw e at f) (rw e at z)

  pub cycle_refused_step : (places : ℕ) → cycle_refusal l g s places ≡ 0 → (cycled l g s places).ended.ending ≡ by_refusal → StepRefused l g s places
  unfolding ended_after
  cycle_refused_step places h f =
      let a = go (none_left_of (phases_left l g s (rows_of l g s places))) (leb g.budget (rows_of l g s places)) (rw (cycle_ends places h) at f) in
      record { left = a.0; below = leb-false g.budget (rows_of l g s places) a.1; number = rw (cycle_ends places h, a.0, a.1) }
    where
      go : (b d : Bool) → (first_ending b d (cycle_step l g s (rows_of l g s places)).refusal).ending ≡ by_refusal → (b ≡ false) × (d ≡ false)
      go true d e = absurd (omega (arith, e))
      go false true e = absurd (omega (arith, e))
      go false false e = (refl, refl)

  -- a cycle without a row is refused: a phase makes at least one step
  pub cycle_no_row : (places : ℕ) → rows_of l g s places ≡ 0 → (cycled l g s places).ended.ending ≡ by_refusal
  unfolding ended_after made_by
  cycle_no_row places z = go (whole places)
    where
      go : Whole places → (cycled l g s places).ended.ending ≡ by_refusal
      go (Whole.refused n e) = rw e
      go (Whole.turns h e) =
          let fit = settings_fit l g s places h in
          rw (cycle_ends places h, z, some_phase l g.count g.repeats fit.phases_least fit.repeats_least, lt-leb g.budget 0 fit.budget_least)
