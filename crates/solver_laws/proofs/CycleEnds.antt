-- A cycle that nothing refuses as a whole is refused by its first step, with 6 or 7, or not at all: every current was tested, and what refuses a plan does not look at the current.
-- Assumes nothing.
use Rattle.std.specs.Prelude.{ℕ, zero, suc, ◌<◌, ◌≡◌, Bool, true, false, not, ◌&&◌, ◌||◌, ◌⊎◌, List, [], ◌∷◌, T, Float}
use Rattle.std.proofs.Math.Path.{refl}
use Rattle.std.proofs.Common.{sym, ap, ◌∙◌, true≢false, inl, inr, arith, zero-lt-suc}
use Rattle.std.proofs.lemmas.Bool.{lt-leb}
use Rattle.std.proofs.Math.Dec.{leb}
use Rattle.std.specs.Float.{binary64}
use Rattle.std.specs.Float.Ieee.{le, lt, neg, fits, of_bits}
use Rattle.std.specs.Float.Ieee.Bits.{is_true}
use Rattle.std.specs.Float.Ieee.Fits.{and_i, and_l, and_r, add-fits}
use Rattle.std.specs.Float.Ieee.Positive.{num, den}
use Rattle.binary64.specs.Literals.{«0·0», «1e-20», «1e-8», «4096·0», «1e6»}
use Rattle.binary64.specs.Range.{Most, Sized, neg_most}
use Rattle.binary64.proofs.RangeTests.{tested_sized, most_le, most_ge}
use Rattle.min_max.proofs.ChoiceLaws.{lt_le}
use Rattle.refusal.specs.Numbers as N
use Rattle.refusal.specs.Ranges.{in_range, load_fits_of, interval_fits, temperature_fits}
use Rattle.iterate.specs.Iterate.{all_at}
use Rattle.runs.specs.Endings.{by_refusal}
use Rattle.diffusion.specs.Run.{Each}
use Rattle.solver.specs.declared.SpmSolver.{SpmSolver}
use Rattle.solver.specs.Cell.{cell_refusal}
use Rattle.solver_step.specs.declared.plan.Plan.{Plan}
use Rattle.solver_step.specs.Plans.{plan_refusal}
use Rattle.solver_step.specs.Arguments.{argument_refusal}
use Rattle.solver.specs.Step.{input_refusal, plan_of}
use Rattle.cycle_run.specs.declared.phases.Phase.{Phase}
use Rattle.cycle_run.specs.declared.phases.Phase.TheVariants.{Charge, Rest, Discharge}
use Rattle.cycle_run.specs.declared.CycleSettings.{CycleSettings}
use Rattle.cycle_run.specs.Phases.{current_of, current_fits, phase_load_fits, phase_at, loads_fit, times_fit}
use Rattle.cycle_run.specs.Cycle.{none_left_of, cycle_refusal, cycled}
use Rattle.cycle_run.specs.Settings.{settings_fit}
use Rattle.solver_laws.specs.Closure.{step_clock}
use Rattle.solver_laws.specs.Demand.{Call, answer, cell_after, plan_for, Inv, itself, stays, same_plan, after_passes}
use Rattle.solver_laws.specs.Clock.{step_number}
use Rattle.solver_laws.specs.AcceptedLists.{AllAccepted}
use Rattle.solver_laws.specs.CycleCalls.{call_of, OfPhase, made_by, calls_of, phases_left, cycle_step}
use Rattle.solver_laws.specs.CycleLists.{cycle_passes}
use Rattle.solver_laws.proofs.CycleLists.{cycled_listed, cycle_taken, cycle_rowed, cycle_refused, cycle_refused_step}
use Rattle.solver_laws.proofs.CyclePhases.{IsPhase, cycle_phases}

-- ---- the current that a tested phase applies is one that a step takes
current_sized : (i : Float) → T (current_fits i) → Sized i (num «1e6») (den «1e6»)
unfolding of_bits
current_sized i t = tested_sized «0·0» i «1e6» tt tt tt (lt_le «0·0» i (is_true (lt «0·0» i) (and_l (lt «0·0» i) (le i «1e6») t))) (and_r (lt «0·0» i) (le i «1e6») t)

most_fits : (i : Float) (b : Bool) → Most i b (num «1e6») (den «1e6») → T (load_fits_of i «1e6»)
unfolding of_bits
most_fits i b m = and_i (le (neg «1e6») i) (le i «1e6») (most_ge m «1e6» tt tt) (most_le m «1e6» tt tt)

rest_fits : T (load_fits_of «0·0» «1e6»)
unfolding le neg of_bits
rest_fits = tt

load_fits : (p : Phase) → T (phase_load_fits p) → T (load_fits_of (current_of p) «1e6»)
load_fits (Charge i) t = most_fits (neg i) _ (neg_most (current_sized i t))
load_fits (Rest x) t = rest_fits
load_fits (Discharge i) t = most_fits i _ (current_sized i t)

-- ---- a cell after accepted calls: of one make, its clock a number of binary64
after_made : (qs : List Call) (s r : SpmSolver) → Inv s r → Inv s (cell_after r qs)
unfolding cell_after
after_made [] s r v = v
after_made (q ∷ qs) s r v = after_made qs s (answer r q).solver (stays s r q v)

after_clock : {r : SpmSolver} {qs : List Call} → AllAccepted r qs → T (fits binary64 r.time_s) → T (fits binary64 (cell_after r qs).time_s)
unfolding cell_after
after_clock AllAccepted.none f = f
after_clock (AllAccepted.more {s = r} {q = q} h a) f =
    after_clock a (rw (step_clock r q.current q.dt q.temp h) (add-fits binary64 r.time_s q.dt))

-- ---- plans
-- what refuses a plan does not look at the current
any_current : (s : SpmSolver) (i j dt t : Float) → plan_refusal (plan_of s i dt t) ≡ plan_refusal (plan_of s j dt t)
unfolding plan_of plan_refusal
any_current s i j dt t = refl

-- and is 6 or 7
plan_numbers : (p : Plan) → (plan_refusal p ≡ 0 → ⊥) → (plan_refusal p ≡ N.diffusivity) ⊎ (plan_refusal p ≡ N.sub_steps_value)
unfolding plan_refusal N.first_refusal N.refusal_unless
plan_numbers p = go (in_range p.d_neg «1e-20» «1e-8» && in_range p.d_pos «1e-20» «1e-8») (not (lt «4096·0» p.q))
  where
    number : Bool → Bool → ℕ
    number a b = N.first_refusal (N.refusal_unless a N.diffusivity) (N.refusal_unless b N.sub_steps_value)

    go : (a b : Bool) → (number a b ≡ 0 → ⊥) → (number a b ≡ N.diffusivity) ⊎ (number a b ≡ N.sub_steps_value)
    go true true n = absurd (n refl)
    go true false n = inr refl
    go false b n = inl refl

-- ---- lists and numbers
first_of : (P : Phase → Type 0) (ps : List Phase) → none_left_of ps ≡ false → Each P ps → P (phase_at ps 0)
first_of P [] e a = absurd (true≢false e)
first_of P (p ∷ rest) e (Each.more a bs) = a

second_met : (a b : ℕ) → a ≡ 0 → N.first_refusal a b ≡ b
unfolding N.first_refusal
second_met a b h = rw h

input_passes : (r : SpmSolver) (i dt t : Float) → cell_refusal r ≡ 0 → argument_refusal i dt t ≡ 0 → input_refusal r i dt t ≡ 0
unfolding input_refusal
input_passes r i dt t h k = second_met (cell_refusal r) (argument_refusal i dt t) h ∙ k

-- what refuses the plan of the first phase
abbrev pub plan_number : List Phase → CycleSettings → SpmSolver → ℕ
plan_number l g s = plan_refusal (plan_for s (call_of g (phase_at l 0)))

module _ (l : List Phase) (g : CycleSettings) (s : SpmSolver) (places : ℕ) (h : cycle_refusal l g s places ≡ 0) where
  record Tested : Type 0 where
    loads : T (loads_fit l g.count)
    interval : T (interval_fits g.dt)
    temperature : T (temperature_fits g.temp_k)

  tested : Tested
  unfolding cycle_refusal
  tested =
      let a = (N.neither_refused _ _ (N.neither_refused _ _ h).1).1 in
      let b = N.neither_refused _ _ a in
      let c = N.neither_refused _ _ b.1 in
      record {
        loads = N.passed (loads_fit l g.count) N.load (zero-lt-suc 2) b.0;
        interval = and_l (interval_fits g.dt) (times_fit l g.count) (N.passed (interval_fits g.dt && times_fit l g.count) N.interval (zero-lt-suc 3) c.0);
        temperature = N.passed (temperature_fits g.temp_k) N.temperature (zero-lt-suc 4) c.1;
      }

  phase_fits : (k : ℕ) → k < g.count → T (phase_load_fits (phase_at l k))
  unfolding loads_fit
  phase_fits k m =
      let t = all_at (λ k. leb g.count k || phase_load_fits (phase_at l k)) 8 k (omega (arith, m, (settings_fit l g s places h).phases_most)) tested.loads in
      rw (lt-leb g.count k m) at t

  call_fits : (q : Call) → OfPhase l g q → argument_refusal q.current q.dt q.temp ≡ 0
  unfolding N.first_refusal N.refusal_unless
  call_fits q a =
      let t = load_fits (phase_at l a.place) (phase_fits a.place a.meant) in
      rw (a.same, is_true (load_fits_of (current_of (phase_at l a.place)) «1e6») t, is_true (interval_fits g.dt) tested.interval, is_true (temperature_fits g.temp_k) tested.temperature)

  -- ---- the number of every step is that of the first phase's plan
  module _ (f : T (fits binary64 s.time_s)) where
    step_settled : (n : ℕ) → AllAccepted s (calls_of l g s n) → none_left_of (phases_left l g s n) ≡ false → (cycle_step l g s n).refusal ≡ plan_number l g s
    step_settled n a e =
        let qs = calls_of l g s n in
        let p = phase_at (phases_left l g s n) 0 in
        let r = cell_after s qs in
        let c = cycle_passes l g s places h in
        let k = input_passes r (current_of p) g.dt g.temp_k (after_passes qs s c) (call_fits (call_of g p) (first_of (IsPhase l g s) (phases_left l g s n) e (cycle_phases l g s n))) in
        step_number r (current_of p) g.dt g.temp_k (after_clock a f) ∙ second_met (input_refusal r (current_of p) g.dt g.temp_k) _ k
        ∙ ap plan_refusal (same_plan s r (call_of g p) (after_made qs s s (itself s c)).make) ∙ any_current s (current_of p) (current_of (phase_at l 0)) g.dt g.temp_k

    -- A CYCLE THAT A STEP REFUSES has no row, and its number is that of the first phase's plan. The cell's clock is a number of binary64, as each f64 of a program is.
    pub cycle_refused_first : (cycled l g s places).ended.ending ≡ by_refusal → ((cycled l g s places).rows ≡ 0) × ((cycled l g s places).ended.refusal ≡ plan_number l g s)
    unfolding made_by
    cycle_refused_first d = (go (cycled l g s places).rows refl, number)
      where
        number : (cycled l g s places).ended.refusal ≡ plan_number l g s
        number =
            let a = cycle_refused_step l g s places h d in
            a.number ∙ step_settled (cycled l g s places).rows (cycled_listed l g s places).accepted a.left

        go : (n : ℕ) → (cycled l g s places).rows ≡ n → (cycled l g s places).rows ≡ 0
        go zero e = e
        go (suc n) e =
            let b = cycle_taken l g s places 0 (omega (arith, e)) in
            absurd (cycle_refused l g s places d (number ∙ sym (step_settled 0 AllAccepted.none b.left) ∙ b.accepted))

    -- so it is 6 or 7
    pub cycle_number : (cycled l g s places).ended.ending ≡ by_refusal → ((cycled l g s places).ended.refusal ≡ N.diffusivity) ⊎ ((cycled l g s places).ended.refusal ≡ N.sub_steps_value)
    cycle_number d =
        let e = (cycle_refused_first d).1 in
        rw e (plan_numbers (plan_for s (call_of g (phase_at l 0))) (λ z. cycle_refused l g s places d (e ∙ z)))

-- A CYCLE THAT HAS A ROW is not refused
pub cycle_unrefused : (l : List Phase) (g : CycleSettings) (s : SpmSolver) (places : ℕ) → T (fits binary64 s.time_s) → ((cycled l g s places).rows ≡ 0 → ⊥)
    → (cycled l g s places).ended.ending ≡ by_refusal → ⊥
cycle_unrefused l g s places f n d = n (cycle_refused_first l g s places (cycle_rowed l g s places n) f d).0
