-- The clock of a cell stays finite, for the largest finite number and a day add up to that number again; so 8 never comes from a step of the cell. Assumes nothing.
use Rattle.std.specs.Prelude.{ℕ, zero, suc, ◌+◌, ◌-◌, ◌*◌, ◌%◌, ◌^◌, ◌<◌, ◌≤◌, ◌≡◌, refl, Bool, true, false, ◌&&◌, T, eqb, leb, ltb, pos, negsuc, Float}
use Rattle.std.proofs.Common.{zero-le, sym, ap, ◌∙◌, subst, ltb-true, ltb-false, le_trans, zero-mul, mul-one, mul_assoc, mul_comm, mul-le-mul, mul-le-mul_right, lt_of_mul-lt-mul_right, le-mul_of_pos_right, zero-lt-suc, le_of_lt, arith, lit≤, ltb→lt, pow_mono, pow-add, pow_pos}
use Rattle.std.proofs.Math.Dec.{eqb-suc-zero}
use Rattle.std.specs.Float.{binary64, nan, inf, fin}
use Rattle.std.specs.Float.Ieee.{up, le, lt, add, fits, of_bits}
use Rattle.std.specs.Float.Ieee.Bits.{is_true}
use Rattle.std.specs.Float.Ieee.Fits.{and_l, and_r}
use Rattle.std.specs.Float.Ieee.Scale.{finite}
use Rattle.binary64.specs.Operators.{◌⊕◌, f64}
use Rattle.binary64.specs.Order.{between_finite}
use Rattle.binary64.proofs.OrderLaws.{add_le}
use Rattle.binary64.specs.Range.{Sized}
use Rattle.binary64.proofs.RangeTests.{most_le}
use Rattle.binary64.specs.Literals.{«0·0», «86400·0»}
use Rattle.min_max.proofs.ChoiceLaws.{lt_le}
use Rattle.refusal.specs.Numbers.{first_refusal, neither_refused}
use Rattle.solver.specs.declared.SpmSolver.{SpmSolver}
use Rattle.solver.specs.Cell.{cell_refusal}
use Rattle.solver_step.specs.Plans.{plan_refusal}
use Rattle.solver_step.specs.Arguments.{argument_refusal}
use Rattle.solver.specs.Step.{input_refusal, plan_of, planned, stepped}
use Rattle.solver_laws.specs.Electrodes.{clock_passed, cell_passed, interval_fits_lem, interval_size}
use Rattle.solver_laws.specs.Acceptance.{step_accepted}

-- ---- the largest finite number
-- m below B and m * 2 ^ k below B * 2 ^ p: at most B - 1 times 2 ^ p
units : (m k p B : ℕ) → m < B → m * 2 ^ k < B * 2 ^ p → m * 2 ^ k ≤ (B - 1) * 2 ^ p
units m k p B h l = go (ltb k p) refl
  where
    large : (d : ℕ) → m * 2 ^ (p + d) < B * 2 ^ p → m * 2 ^ (p + d) ≤ (B - 1) * 2 ^ p
    large d q =
        let e : m * 2 ^ (p + d) ≡ m * 2 ^ d * 2 ^ p = ap (λ (x : ℕ). m * x) (pow-add 2 p d ∙ mul_comm (2 ^ p) (2 ^ d)) ∙ sym (mul_assoc m (2 ^ d) (2 ^ p)) in
        let r : m * 2 ^ d < B = lt_of_mul-lt-mul_right (2 ^ p) (subst (λ (x : ℕ). x < B * 2 ^ p) e q) in
        let n : m * 2 ^ d ≤ B - 1 = omega (arith, r) in
        subst (λ (x : ℕ). x ≤ (B - 1) * 2 ^ p) (sym e) (mul-le-mul_right (2 ^ p) n)

    go : (b : Bool) → ltb k p ≡ b → m * 2 ^ k ≤ (B - 1) * 2 ^ p
    go true e =
        let g = ltb-true k p e in
        let n : m ≤ B - 1 = omega (arith, h) in
        mul-le-mul n (pow_mono (le_of_lt g))
    go false e =
        let g = ltb-false k p e in
        let s : p + (k - p) ≡ k = omega (arith, g) in
        subst (λ (n : ℕ). m * 2 ^ n ≤ (B - 1) * 2 ^ p) s (large (k - p) (subst (λ (n : ℕ). m * 2 ^ n < B * 2 ^ p) (sym s) l))

abbrev most : ℕ
most = (2 ^ 53 - 1) * 2 ^ 971

large_most : (m k : ℕ) → m < 2 ^ 53 → m * 2 ^ k < 2 ^ 1024 → m * 2 ^ k ≤ most
large_most m k h l = units m k 971 (2 ^ 53) h l

small_most : (m k : ℕ) → m < 2 ^ 53 → m ≤ most * 2 ^ k
small_most m k h = le_trans (le_of_lt h) (le_trans (lit≤ tt) (le-mul_of_pos_right most (pow_pos k)))

all_most : (x : Float) → T (finite x) → T (fits binary64 x) → Sized x most 1
unfolding fits
all_most nan f t = absurd f
all_most (inf s) f t = absurd f
all_most (fin s zero e) f t = record { over = zero-lt-suc 0; fine = tt; sign = refl; most = rw (zero-mul (up e), zero-mul 1) zero-le }
all_most (fin s (suc m) (pos k)) f t =
    let o = eqb (suc m % 2) 1 in
    let a = ltb (suc m) (2 ^ 53) in
    let b = leb 1 (2 ^ 1074) in
    let c = ltb (suc m * 2 ^ k) (2 ^ 1024 * 1) in
    let u = and_r o a (and_l (o && a) b (and_l (o && a && b) c t)) in
    let w = large_most (suc m) k (ltb→lt (suc m) (2 ^ 53) u) (rw (mul-one (2 ^ 1024)) at (ltb→lt (suc m * 2 ^ k) (2 ^ 1024 * 1) (and_r (o && a && b) c t))) in
    record { over = zero-lt-suc 0; fine = tt; sign = refl; most = rw (mul-one (suc m * 2 ^ k), mul-one most) w }
all_most (fin s (suc m) (negsuc k)) f t =
    let o = eqb (suc m % 2) 1 in
    let a = ltb (suc m) (2 ^ 53) in
    let b = leb (2 ^ suc k) (2 ^ 1074) in
    let c = ltb (suc m * 1) (2 ^ 1024 * 2 ^ suc k) in
    let u = and_r o a (and_l (o && a) b (and_l (o && a && b) c t)) in
    record { over = zero-lt-suc 0; fine = tt; sign = refl; most = rw (mul-one (suc m * 1), mul-one (suc m)) (small_most (suc m) (suc k) (ltb→lt (suc m) (2 ^ 53) u)) }

abbrev top : Float
top = f64 0x7fef_ffff_ffff_ffff

abbrev day : Float
day = «86400·0»

below_top : (x : Float) → T (finite x) → T (fits binary64 x) → T (le x top)
unfolding of_bits
below_top x f t = most_le (all_most x f t) top tt tt

record Sums : Type 0 where
  zero_fine : T (finite «0·0»)
  day_fine : T (finite day)
  top_fine : T (finite top)
  low_fine : T (finite («0·0» ⊕ «0·0»))
  high_fine : T (finite (top ⊕ day))

sums : Sums
unfolding add of_bits
sums = record { zero_fine = tt; day_fine = tt; top_fine = tt; low_fine = tt; high_fine = tt }

-- ---- a step that is refused before it is made
module _ (s : SpmSolver) (i dt t : Float) where
  abbrev settled : ℕ
  settled = first_refusal (input_refusal s i dt t) (plan_refusal (plan_of s i dt t))

  plan_refused : (k : ℕ) → input_refusal s i dt t ≡ 0 → plan_refusal (plan_of s i dt t) ≡ suc k → (stepped s i dt t).refusal ≡ settled
  unfolding stepped planned first_refusal
  plan_refused k h g = rw (h, g, eqb-suc-zero k)

  input_refused : (k : ℕ) → input_refusal s i dt t ≡ suc k → (stepped s i dt t).refusal ≡ settled
  unfolding stepped first_refusal
  input_refused k h = rw (h, eqb-suc-zero k)

pub both_zero : (a b : ℕ) → a ≡ 0 → b ≡ 0 → first_refusal a b ≡ 0
unfolding first_refusal
both_zero a b h k = rw (h, k)

pub arguments : (s : SpmSolver) (i dt t : Float) → input_refusal s i dt t ≡ 0 → argument_refusal i dt t ≡ 0
unfolding input_refusal
arguments s i dt t h = (neither_refused (cell_refusal s) (argument_refusal i dt t) h).1

-- ---- the clock
module _ (s : SpmSolver) (i dt t : Float) (f : T (fits binary64 s.time_s)) where
  clock_stays : input_refusal s i dt t ≡ 0 → T (finite (s.time_s ⊕ dt))
  clock_stays h =
      let c = s.time_s in
      let k = clock_passed s (cell_passed s i dt t h) in
      let a = and_l (finite c) (le «0·0» c) k in
      let d = (interval_size s i dt t h).0.fine in
      let l = interval_fits_lem s i dt t h in
      between_finite («0·0» ⊕ «0·0») (c ⊕ dt) (top ⊕ day) sums.low_fine sums.high_fine
      (add_le «0·0» c «0·0» dt sums.zero_fine a sums.zero_fine d (and_r (finite c) (le «0·0» c) k)
      (lt_le «0·0» dt (is_true (lt «0·0» dt) (and_l (lt «0·0» dt) (le dt day) l))))
      (add_le c top dt day a sums.top_fine d sums.day_fine (below_top c a f) (and_r (lt «0·0» dt) (le dt day) l))

  -- THE NUMBER OF A STEP is settled by its input and its plan: 8 never comes. The clock is a number of binary64, as each f64 of a program is.
  pub step_number : (stepped s i dt t).refusal ≡ first_refusal (input_refusal s i dt t) (plan_refusal (plan_of s i dt t))
  step_number = input (input_refusal s i dt t) refl
    where
      plan : (k : ℕ) → plan_refusal (plan_of s i dt t) ≡ k → input_refusal s i dt t ≡ 0 → (stepped s i dt t).refusal ≡ first_refusal (input_refusal s i dt t) (plan_refusal (plan_of s i dt t))
      plan zero g h = step_accepted s i dt t h g (clock_stays h) ∙ sym (both_zero (input_refusal s i dt t) (plan_refusal (plan_of s i dt t)) h g)
      plan (suc k) g h = plan_refused s i dt t k h g

      input : (k : ℕ) → input_refusal s i dt t ≡ k → (stepped s i dt t).refusal ≡ first_refusal (input_refusal s i dt t) (plan_refusal (plan_of s i dt t))
      input zero h = plan (plan_refusal (plan_of s i dt t)) refl h
      input (suc k) h = input_refused s i dt t k h
