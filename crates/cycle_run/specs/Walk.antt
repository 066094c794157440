-- The code's counters walk the list of phases written out: a turn of theirs, seen in the list, is a turn of the definition. Assumes nothing.
use Prim.Native.Nat.{ℕ, zero, suc, ◌+◌, ◌-◌, ◌<◌, ◌≤◌}
use Rattle.std.specs.Prelude.{◌≡◌, Bool, List, [], ◌∷◌, ◌++◌, eqb, ltb, Float}
use Rattle.std.proofs.Math.Path.{refl, sym, ap}
use Rattle.std.proofs.Common.{◌∙◌}
use Rattle.std.proofs.Math.Bool.{true, false}
use native.Mathlib.Omega.{arith}
use borrow.Author.Tests.{ltb-true, ltb-false, eqb-true, eqb-false}
use Rattle.binary64.specs.Operators.{◌⊕◌}
use Rattle.binary64.specs.Literals.{«0·0»}
use Rattle.runs.specs.Endings.{going_on_of, by_refusal}
use Rattle.runs.specs.Simulation.{Simulates, after_seen, rows_seen}
use Rattle.solver.specs.declared.SpmSolver.{SpmSolver}
use Rattle.solver.specs.Answers.{SpmStepAnswer}
use Rattle.solver.specs.Step.{stepped}
use Rattle.cycle_run.specs.declared.phases.Phase.{Phase}
use Rattle.cycle_run.specs.declared.CycleSettings.{CycleSettings}
use Rattle.cycle_run.specs.declared.Position.{Position}
use Rattle.cycle_run.specs.States.{CycleState}
use Rattle.cycle_run.specs.Phases.{phase_at, current_of, phase_over, phases_from, repeated}
use Rattle.cycle_run.specs.Cycle.{Progress, Cycling, progress_after, none_left_of, over_after, accepted, refused, followed, turned_by_of, turned, over_of, last_row_of, finished_cycle, all_turns, all_rows, started, start_of}
use Rattle.cycle_run.specs.Counters.{Inside, moved_on, next_position, over_by, started_at, AcceptedAt, refused_at, followed_at, turned_at, over_at, row_at, finished_at, all_turns_at, all_rows_at}

-- ---- a turn writes one row, and stays among the phases
followed_rows : (l : List Phase) (g : CycleSettings) (c : CycleState) (t : SpmStepAnswer) (b : Bool) → eqb t.refusal 0 ≡ b → ((followed_at l g c t).over ≡ by_refusal → ⊥)
    → (followed_at l g c t).rows ≡ c.rows + 1
unfolding followed_at AcceptedAt refused_at
followed_rows l g c t true e h = rw e
followed_rows l g c t false e h = absurd (h (rw e))

pub turned_rows : (l : List Phase) (g : CycleSettings) (c : CycleState) → ((turned_at l g c).over ≡ by_refusal → ⊥) → (turned_at l g c).rows ≡ c.rows + 1
unfolding turned_at
turned_rows l g c h = followed_rows l g c _ _ refl h

module _ (l : List Phase) (g : CycleSettings) where
  moved_place : (q : Position) (b : Bool) → ltb (q.place + 1) g.count ≡ b → q.place < g.count → (moved_on g q).place < g.count
  unfolding moved_on
  moved_place q true e h = rw e (ltb-true _ _ e)
  moved_place q false e h = rw e (omega (arith, h))

  next_place : (q : Position) (cutoff b : Bool) → phase_over (phase_at l q.place) cutoff (q.clock ⊕ g.dt) ≡ b → q.place < g.count → (next_position l g q cutoff).place < g.count
  unfolding next_position
  next_place q cutoff true e h = rw e (moved_place q _ refl h)
  next_place q cutoff false e h = rw e h

  -- ---- what the counters see of the list
  -- the phase at a place is under way, with so many repeats left
  unfoldable pub left_at : ℕ → ℕ → List Phase
  left_at place zero = []
  left_at place (suc m) = phases_from l place (g.count - place) ++ repeated m (phases_from l 0 g.count)

  -- the phases after that one
  abbrev rest : ℕ → ℕ → List Phase
  rest place m = phases_from l (suc place) (g.count - suc place) ++ repeated m (phases_from l 0 g.count)

  left_is : (place m : ℕ) → place < g.count → left_at place (suc m) ≡ phase_at l place ∷ rest place m
  unfolding left_at phases_from
  left_is place m h =
      let e : g.count - place ≡ suc (g.count - suc place) = omega arith in
      rw e

  left_none : (place r : ℕ) (b : Bool) → eqb r 0 ≡ b → place < g.count → none_left_of (left_at place r) ≡ b
  unfolding left_at
  left_none place zero true e h = refl
  left_none place (suc m) false e h = rw (left_is place m h)
  left_none place zero false e h = absurd (eqb-false 0 0 e refl)
  left_none place (suc m) true e h = absurd (omega (arith, eqb-true (suc m) 0 e))

  -- the first of the repeats that are left
  left_first : (r : ℕ) → left_at 0 r ≡ repeated r (phases_from l 0 g.count)
  unfolding left_at repeated
  left_first zero = refl
  left_first (suc m) =
      let e : g.count - 0 ≡ g.count = omega arith in
      ap (λ (k : ℕ). phases_from l 0 k ++ repeated m (phases_from l 0 g.count)) e

  abbrev pub progress_of : Position → Progress
  progress_of q = record { phases = left_at q.place q.repeats_left; clock = q.clock }

  rest_none : (place m : ℕ) → g.count - suc place ≡ 0 → rest place m ≡ repeated m (phases_from l 0 g.count)
  unfolding phases_from
  rest_none place m z = rw z

  -- the next phase is the first of the rest
  moved_left : (q : Position) (m : ℕ) (b : Bool) → ltb (q.place + 1) g.count ≡ b → q.repeats_left ≡ suc m
      → left_at (moved_on g q).place (moved_on g q).repeats_left ≡ rest q.place m
  unfolding moved_on left_at
  moved_left q m true e r =
      let z : q.place + 1 ≡ suc q.place = omega arith in
      rw (e, r, z)
  moved_left q m false e r =
      let n = ltb-false (q.place + 1) g.count e in
      let z : g.count - suc q.place ≡ 0 = omega (arith, n) in
      let y : suc m - 1 ≡ m = omega arith in
      rw (e, r, y) (left_first m ∙ sym (rest_none q.place m z))

  moved_clock : (q : Position) (b : Bool) → ltb (q.place + 1) g.count ≡ b → (moved_on g q).clock ≡ «0·0»
  unfolding moved_on
  moved_clock q true e = rw e
  moved_clock q false e = rw e

  -- a position after a step is the progress after it
  next_progress : (q : Position) (m : ℕ) (cutoff b : Bool) → phase_over (phase_at l q.place) cutoff (q.clock ⊕ g.dt) ≡ b → q.place < g.count → q.repeats_left ≡ suc m
      → progress_of (next_position l g q cutoff) ≡ progress_after g.dt (phase_at l q.place) (rest q.place m) q.clock cutoff
  unfolding next_position progress_after
  next_progress q m cutoff true e h r = rw (e, moved_left q m _ refl r, moved_clock q _ refl)
  next_progress q m cutoff false e h r = rw (e, r, left_is q.place m h)

  -- and what ends the cycle there is the same
  same_ending : (q : Position) (rows : ℕ) → q.place < g.count → over_after g.budget (left_at q.place q.repeats_left) rows ≡ over_by g q rows
  unfolding over_after over_by
  same_ending q rows h = rw (left_none q.place q.repeats_left _ refl h)

  -- ---- a turn of the counters is a turn of the definition
  abbrev pub seen : CycleState → Cycling
  seen c = record { solver = c.solver; progress = progress_of c.position; rows = c.rows; over = c.over; refusal = c.refusal; state = c.state }

  seen_accepted : (c : CycleState) (t : SpmStepAnswer) (q : Position) → q.place < g.count → seen (AcceptedAt g c t q) ≡ accepted g.budget (seen c) t (progress_of q)
  unfolding AcceptedAt accepted
  seen_accepted c t q h = rw (same_ending q (c.rows + 1) h)

  seen_followed : (c : CycleState) (m : ℕ) (t : SpmStepAnswer) (b : Bool) → eqb t.refusal 0 ≡ b → c.position.place < g.count → c.position.repeats_left ≡ suc m
      → seen (followed_at l g c t) ≡ followed g (seen c) (phase_at l c.position.place) (rest c.position.place m) t
  unfolding followed_at followed refused_at refused
  seen_followed c m t true e h r =
      rw e (seen_accepted c t (next_position l g c.position t.state.cutoff) (next_place c.position t.state.cutoff _ refl h)
      ∙ ap (accepted g.budget (seen c) t) (next_progress c.position m t.state.cutoff _ refl h r))
  seen_followed c m t false e h r = rw e

  turned_at_lem : (c : Cycling) (p : Phase) (later : List Phase) → c.progress.phases ≡ p ∷ later
      → turned g c ≡ followed g c p later (stepped c.solver (current_of p) g.dt g.temp_k)
  unfolding turned turned_by_of
  turned_at_lem c p later e = rw e

  seen_turned : (c : CycleState) (m : ℕ) → c.position.place < g.count → c.position.repeats_left ≡ suc m → seen (turned_at l g c) ≡ turned g (seen c)
  unfolding turned_at
  seen_turned c m h r =
      seen_followed c m (stepped c.solver (current_of (phase_at l c.position.place)) g.dt g.temp_k) _ refl h r
      ∙ sym (turned_at_lem (seen c) (phase_at l c.position.place) (rest c.position.place m) (rw r (left_is c.position.place m h)))

  -- ---- the counters stay inside the list while the cycle goes on
  abbrev pub Walking : CycleState → Type 0
  Walking c = (c.position.place < g.count) × (c.over ≡ going_on_of → 1 ≤ c.position.repeats_left)

  some_left : (q : Position) (rows r : ℕ) → q.repeats_left ≡ r → over_by g q rows ≡ going_on_of → 1 ≤ q.repeats_left
  unfolding over_by
  some_left q rows zero e h = absurd (omega (arith, rw e at h))
  some_left q rows (suc m) e h = omega (arith, e)

  followed_walking : (c : CycleState) (t : SpmStepAnswer) (b : Bool) → eqb t.refusal 0 ≡ b → c.position.place < g.count → Walking (followed_at l g c t)
  unfolding followed_at AcceptedAt refused_at
  followed_walking c t true e h =
      let q = next_position l g c.position t.state.cutoff in
      rw e (next_place c.position t.state.cutoff _ refl h, λ z. some_left q (c.rows + 1) _ refl z)
  followed_walking c t false e h = rw e (h, λ z. absurd (omega (arith, z)))

  pub turned_walking : (c : CycleState) → c.position.place < g.count → Walking (turned_at l g c)
  unfolding turned_at
  turned_walking c h = followed_walking c _ _ refl h

  walks : Simulates over_at (turned_at l g) row_at over_of (turned g) last_row_of seen Walking
  walks = record {
    same_over = λ c. refl;
    same_row = λ c. refl;
    turn = λ c p z. let e : c.position.repeats_left ≡ suc (c.position.repeats_left - 1) = omega (arith, p.1 z) in seen_turned c (c.position.repeats_left - 1) p.0 e;
    keeps = λ c p z. turned_walking c p.0;
  }

  -- ---- from the start
  module _ (s : SpmSolver) (h : 1 ≤ g.count) (r : 1 ≤ g.repeats) where
    seen_started : seen (started_at g s) ≡ start_of l g s
    unfolding started_at started
    seen_started = rw (left_first g.repeats)

    start_walking : Walking (started_at g s)
    unfolding started_at
    start_walking = (h, λ z. r)

    -- THE COUNTERS WALK THE LIST: what they give is what the phases written out give
    pub turns_walked : all_turns_at l g (started_at g s) ≡ all_turns g (start_of l g s)
    unfolding all_turns_at all_turns finished_at finished_cycle
    turns_walked = rw (← seen_started) (ap finished_cycle (after_seen over_at (turned_at l g) row_at over_of (turned g) last_row_of seen Walking walks g.budget (started_at g s) start_walking).0)

    pub rows_walked : (out : List Float) → all_rows_at l g (started_at g s) out ≡ all_rows g (start_of l g s) out
    unfolding all_rows_at all_rows
    rows_walked out = rw (← seen_started) (rows_seen over_at (turned_at l g) row_at over_of (turned g) last_row_of seen Walking walks g.budget (started_at g s) out start_walking)

-- after i turns, while the cycle goes on, there are i rows and a phase is under way
pub keeps : (l : List Phase) (g : CycleSettings) (i : ℕ) (c : CycleState) → (c.rows ≡ i) × Inside g c.position → (turned_at l g c).over ≡ going_on_of
    → ((turned_at l g c).rows ≡ i + 1) × Inside g (turned_at l g c).position
keeps l g i c h z =
    let w = turned_walking l g c h.1.0 in
    (turned_rows l g c (λ e. absurd (omega (arith, z, e))) ∙ ap (λ (k : ℕ). k + 1) h.0, (w.0, (h.1.1.0, w.1 z)))
