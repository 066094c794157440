-- The turns of a cycle, as rows: its cell is that after the calls of its rows, it stands where they leave it among its phases, its last report is that of its last row, and what has ended
-- it. Assumes nothing.
use Rattle.std.specs.Prelude.{ℕ, zero, suc, ◌+◌, ◌≤◌, ◌<◌, ◌≡◌, Bool, eqb, leb}
use Rattle.std.proofs.Math.Path.{refl, subst}
use Rattle.std.proofs.Common.{sym, ap, ◌∙◌, true≢false, arith}
use Rattle.std.proofs.Math.Bool.{true, false, cond}
use mathlib.Core.List.{List, [], ◌∷◌, ◌++◌}
use Rattle.std.proofs.Math.Numerals.{add-one}
use borrow.Author.Tests.{eqb-true, eqb-false, le-leb, lt-leb}
use Rattle.runs.specs.Endings.{ending_of, going_on_of, by_refusal, by_done, by_spent}
use Rattle.runs.specs.Rows.{run_after}
use Rattle.runs.specs.Laws.{run_keeps}
use Rattle.runs.specs.RowPlaces.{CountsRows, count_on, row_count}
use Rattle.runs.specs.Causes.{Cause, rows_go_on, cause_number}
use Rattle.solver.specs.declared.SpmSolver.{SpmSolver}
use Rattle.solver.specs.Answers.{SpmStepAnswer}
use Rattle.cycle_run.specs.declared.phases.Phase.{Phase}
use Rattle.cycle_run.specs.declared.CycleSettings.{CycleSettings}
use Rattle.cycle_run.specs.Phases.{current_of, phases_from, repeated, written_out}
use Rattle.cycle_run.specs.Cycle.{Progress, Cycling, progress_after, none_left_of, over_after, started, start_of, accepted, refused, followed, turned_by_of, turned, over_of, last_row_of, cycle_refusal}
use Rattle.cycle_run.specs.Settings.{settings_fit}
use Rattle.solver_laws.specs.Closure.{step_refused}
use Rattle.solver_laws.specs.Demand.{answer}
use Rattle.solver_laws.specs.AcceptedLists.{Listed, listed_none, listed_more}
use Rattle.solver_laws.specs.CycleCalls.{call_of, Made, first_ending, made_next, made_by, calls_of, phases_left, cycle_step, ended_after, TakenRow}

-- a list of phases that is repeated has a first one
pub some_phase : (l : List Phase) (count repeats : ℕ) → 1 ≤ count → 1 ≤ repeats → none_left_of (written_out l count repeats) ≡ false
unfolding phases_from repeated
some_phase l zero repeats a b = absurd (omega (arith, a))
some_phase l (suc c) zero a b = absurd (omega (arith, b))
some_phase l (suc c) (suc r) a b = refl

module _ (l : List Phase) (g : CycleSettings) (s : SpmSolver) where
  -- what n rows make of it
  abbrev pub over_at : ℕ → ℕ
  over_at n = over_after g.budget (phases_left l g s n) n

  abbrev refusal_at : ℕ → ℕ
  refusal_at n = (cycle_step l g s n).refusal

  -- what has ended it so far: its rows, or the step after them, which is refused
  abbrev pub OverBy : Cycling → Type 0
  OverBy c = Cause over_at refusal_at c.rows c.over c.refusal

  -- where a cycle stands
  pub record Standing (c : Cycling) : Type 0 where
    pub listed : Listed s c.solver (calls_of l g s c.rows)
    pub progress : c.progress ≡ (made_by l g s c.rows).progress
    pub last : (k : ℕ) → c.rows ≡ suc k → (c.state ≡ (cycle_step l g s k).state) × TakenRow l g s k
    pub over : OverBy c

  -- while it goes on, a phase is left and the budget is not made
  rows_on : (n : ℕ) → over_at n ≡ going_on_of → (none_left_of (phases_left l g s n) ≡ false) × (leb g.budget n ≡ false)
  unfolding over_after
  rows_on n = go (none_left_of (phases_left l g s n)) (leb g.budget n)
    where
      go : (b d : Bool) → cond b by_done (cond d by_spent going_on_of) ≡ going_on_of → (b ≡ false) × (d ≡ false)
      go true d e = absurd (omega (arith, e))
      go false true e = absurd (omega (arith, e))
      go false false e = (refl, refl)

  going : (c : Cycling) → c.over ≡ 0 → Standing c → over_at c.rows ≡ going_on_of
  going c o w = rows_go_on over_at refusal_at c.rows c.over c.refusal o w.over

  -- ---- a turn
  -- the phase p under way, and its row
  module _ (c : Cycling) (p : Phase) (rest : List Phase) (w : Standing c) (e : c.progress.phases ≡ p ∷ rest) where
    abbrev n : ℕ
    n = c.rows

    abbrev t : SpmStepAnswer
    t = answer c.solver (call_of g p)

    left_is : phases_left l g s n ≡ p ∷ rest
    left_is = ap (λ (x : Progress). x.phases) (sym w.progress) ∙ e

    step_is : t ≡ cycle_step l g s n
    step_is = rw (left_is, w.listed.cell)

    made_more : made_by l g s (suc n) ≡ record { calls = calls_of l g s n ++ call_of g p ∷ []; progress = progress_after g.dt p rest c.progress.clock t.state.cutoff }
    unfolding made_by made_next
    made_more = rw (left_is, w.progress, w.listed.cell)

    progress_more : progress_after g.dt p rest c.progress.clock t.state.cutoff ≡ (made_by l g s (suc n)).progress
    progress_more = ap (λ (x : Made). x.progress) (sym made_more)

    row_taken : t.refusal ≡ 0 → TakenRow l g s n
    row_taken z = record { left = rw left_is; accepted = ap (λ (x : SpmStepAnswer). x.refusal) (sym step_is) ∙ z }

    followed_standing : (b : Bool) → c.over ≡ 0 → eqb t.refusal 0 ≡ b → Standing (followed g c p rest t)
    unfolding followed accepted refused
    followed_standing true o h =
        let z = eqb-true t.refusal 0 h in
        rw (h, add-one n) (record {
          listed = subst (λ (x : Made). Listed s t.solver x.calls) (sym made_more) (listed_more s c.solver (calls_of l g s n) (call_of g p) w.listed z);
          progress = progress_more;
          last = λ k y.
              let x : n ≡ k = omega (arith, y) in
              subst (λ (k : ℕ). (t.state ≡ (cycle_step l g s k).state) × TakenRow l g s k) x (ap (λ (x : SpmStepAnswer). x.state) step_is, row_taken z);
          over = Cause.rows (ap (λ (x : Progress). over_after g.budget x.phases (suc n)) progress_more);
        })
    followed_standing false o h =
        let z = eqb-false t.refusal 0 h in
        rw (h, (step_refused c.solver (current_of p) g.dt g.temp_k z).0) (record {
          listed = w.listed;
          progress = w.progress;
          last = w.last;
          over = Cause.step refl (going c o w) (ap (λ (x : SpmStepAnswer). x.refusal) step_is) z;
        })

  turned_by : (c : Cycling) (left : List Phase) → c.over ≡ 0 → Standing c → c.progress.phases ≡ left → Standing (turned_by_of g c left)
  unfolding turned_by_of
  turned_by c [] o w e = w
  turned_by c (p ∷ rest) o w e = followed_standing c p rest w e _ o refl

  turned_standing : (c : Cycling) → c.over ≡ 0 → Standing c → Standing (turned g c)
  unfolding turned
  turned_standing c o w = turned_by c c.progress.phases o w refl

  -- ---- a turn counts its row, where a phase is left
  followed_rows : (c : Cycling) (p : Phase) (rest : List Phase) (t : SpmStepAnswer) (b : Bool) → eqb t.refusal 0 ≡ b → ((followed g c p rest t).over ≡ by_refusal → ⊥)
      → (followed g c p rest t).rows ≡ c.rows + 1
  unfolding followed accepted refused
  followed_rows c p rest t true e h = rw e
  followed_rows c p rest t false e h = absurd (h (rw e))

  left_ends : (left : List Phase) (n : ℕ) → over_after g.budget left n ≡ by_refusal → ⊥
  unfolding over_after
  left_ends left n = go (none_left_of left) (leb g.budget n)
    where
      go : (b d : Bool) → cond b by_done (cond d by_spent going_on_of) ≡ by_refusal → ⊥
      go true d e = omega (arith, e)
      go false true e = omega (arith, e)
      go false false e = omega (arith, e)

  followed_refused : (c : Cycling) (p : Phase) (rest : List Phase) (t : SpmStepAnswer) (b : Bool) → eqb t.refusal 0 ≡ b → (followed g c p rest t).over ≡ by_refusal
      → (followed g c p rest t).rows ≡ c.rows
  unfolding followed accepted refused
  followed_refused c p rest t true e h = absurd (left_ends (progress_after g.dt p rest c.progress.clock t.state.cutoff).phases (c.rows + 1) (rw e at h))
  followed_refused c p rest t false e h = rw e

  turned_rows : (c : Cycling) (left : List Phase) → none_left_of left ≡ false → ((turned_by_of g c left).over ≡ by_refusal → ⊥) → (turned_by_of g c left).rows ≡ c.rows + 1
  unfolding turned_by_of
  turned_rows c [] e h = absurd (true≢false e)
  turned_rows c (p ∷ rest) e h = followed_rows c p rest _ _ refl h

  turned_refused : (c : Cycling) (left : List Phase) → (turned_by_of g c left).over ≡ by_refusal → (turned_by_of g c left).rows ≡ c.rows
  unfolding turned_by_of
  turned_refused c [] h = refl
  turned_refused c (p ∷ rest) h = followed_refused c p rest _ _ refl h

  -- ---- what the rows tell of the ending
  rows_refuse_not : (n k : ℕ) → (ending_of (over_at n) k).ending ≡ by_refusal → ⊥
  unfolding ending_of over_after
  rows_refuse_not n k = go (none_left_of (phases_left l g s n)) (leb g.budget n)
    where
      go : (b d : Bool) → (ending_of (cond b by_done (cond d by_spent going_on_of)) k).ending ≡ by_refusal → ⊥
      go true d f = omega (arith, f)
      go false true f = omega (arith, f)
      go false false f = omega (arith, f)

  ended_of : (c : Cycling) → OverBy c → (c.over ≡ 0 → leb g.budget c.rows ≡ true) → ending_of c.over c.refusal ≡ ended_after l g s c.rows
  unfolding ending_of ended_after over_after
  ended_of c (Cause.rows e) f = rw e (by_rows (none_left_of (phases_left l g s c.rows)) (leb g.budget c.rows) c.refusal (λ z. f (e ∙ z)))
    where
      by_rows : (b d : Bool) (k : ℕ) → (cond b by_done (cond d by_spent going_on_of) ≡ 0 → d ≡ true)
          → ending_of (cond b by_done (cond d by_spent going_on_of)) k ≡ first_ending b d (refusal_at c.rows)
      by_rows true d k h = refl
      by_rows false true k h = refl
      by_rows false false k h = absurd (true≢false (sym (h refl)))
  ended_of c (Cause.step o h k n) f = rw (o, k, (rows_on c.rows h).0, (rows_on c.rows h).1)

  -- ---- a cycle that nothing refuses as a whole
  module _ (places : ℕ) (h : cycle_refusal l g s places ≡ 0) where
    start_goes_on : over_at 0 ≡ going_on_of
    unfolding over_after made_by
    start_goes_on =
        let fit = settings_fit l g s places h in
        rw (some_phase l g.count g.repeats fit.phases_least fit.repeats_least, lt-leb g.budget 0 fit.budget_least)

    start_standing : Standing (start_of l g s)
    unfolding started made_by
    start_standing = record { listed = listed_none s; progress = refl; last = λ k e. absurd (omega (arith, e)); over = Cause.rows (sym start_goes_on) }

    abbrev after : ℕ → Cycling
    after k = run_after over_of (turned g) last_row_of k (start_of l g s)

    pub after_standing : (k : ℕ) → Standing (after k)
    after_standing = run_keeps over_of (turned g) last_row_of (start_of l g s) Standing turned_standing start_standing

    phase_left : (k : ℕ) → (after k).over ≡ 0 → none_left_of (after k).progress.phases ≡ false
    phase_left k o =
        let w = after_standing k in
        ap (λ (x : Progress). none_left_of x.phases) w.progress ∙ (rows_on (after k).rows (going (after k) o w)).0

    pub counts : CountsRows over_of (turned g) last_row_of (start_of l g s) (λ c. c.rows)
    unfolding started turned
    counts = record {
      start = refl;
      written = λ k o n. turned_rows (after k) (after k).progress.phases (phase_left k o) n;
      refused = λ k o n. turned_refused (after k) (after k).progress.phases n;
    }

    -- its rows
    pub row_by : (k j : ℕ) → j < (after k).rows → ((after (suc j)).state ≡ (cycle_step l g s j).state) × TakenRow l g s j
    row_by k j m = (after_standing (suc j)).last j (row_count over_of (turned g) last_row_of (start_of l g s) (λ c. c.rows) counts k j m)

    -- and its ending
    pub ended_is : ending_of (after g.budget).over (after g.budget).refusal ≡ ended_after l g s (after g.budget).rows
    ended_is =
        let c = after g.budget in
        ended_of c (after_standing g.budget).over
        (λ o. le-leb g.budget c.rows (omega (arith, count_on over_of (turned g) last_row_of (start_of l g s) (λ c. c.rows) counts g.budget o)))

    pub refused_number : (ending_of (after g.budget).over (after g.budget).refusal).ending ≡ by_refusal → (ending_of (after g.budget).over (after g.budget).refusal).refusal ≡ 0 → ⊥
    refused_number =
        let c = after g.budget in
        cause_number over_at refusal_at c.rows c.over c.refusal (rows_refuse_not c.rows c.refusal) (after_standing g.budget).over
