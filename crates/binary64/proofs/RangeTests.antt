-- Ranges of whole numbers, of literals, and from and to what a program tests. Assumes nothing.
use Rattle.std.specs.Prelude.{◌≡◌, refl, ℕ, ◌*◌, ◌^◌, ◌≤◌, Bool, true, false, T, ltb, leb, ℤ, pos, nat_abs, Float}
use Rattle.std.proofs.Common.{sym, subst, zero-le, lt_of_lt_of_le, mul-pos, le_trans, le_of_eq, zero-lt-suc, mul-le-mul_right, arith, true≢false, ltb→lt, lt→ltb, leb→le}
use Rattle.std.specs.Float.{nan, inf, fin, binary64}
use Rattle.std.specs.Float.Ieee.{up, down, le, neg, of_int}
use Rattle.std.specs.Float.Ieee.Fits.{down_pos}
use Rattle.std.specs.Float.Ieee.Exact.{HasValue}
use Rattle.std.specs.Float.Ieee.Positive.{num, den, den_pos, through, positive, positive-finite, own_value, between, first_pos, cross→le}
use Rattle.std.specs.Float.Ieee.Scale.{finite}
use Rattle.binary64.specs.Operators.{count, negative}
use Rattle.binary64.specs.Order.{Below, le→below, below→le, neg_le, between_finite, below_zero_lem, int_value}
use Rattle.binary64.specs.Range.{Most, Between, Within, Sized, neg_most}
use Rattle.binary64.proofs.Range.{most_of_le, least_of_le}

-- ---- whole numbers up to 2 ^ 53 in size
whole_between : (x : Float) (s : Bool) (k A B : ℕ) → HasValue x s k 1 → k ≤ A → B ≤ k → Between x s A 1 B 1
whole_between nan s k A B v h l = absurd v
whole_between (inf t) s k A B v h l = absurd v
whole_between (fin t m e) s k A B v h l = (
  record { over = zero-lt-suc 0; fine = tt; sign = v.0; most = le_trans (le_of_eq v.1) (mul-le-mul_right (down e) h) },
  record { over = zero-lt-suc 0; least = le_trans (mul-le-mul_right (down e) l) (le_of_eq (sym v.1)) },
)

pub int_between : (z : ℤ) (A B : ℕ) → nat_abs z ≤ A → B ≤ nat_abs z → nat_abs z ≤ 2 ^ 53 → Between (of_int binary64 z) (below_zero_lem z) A 1 B 1
int_between z A B h l m = whole_between (of_int binary64 z) (below_zero_lem z) (nat_abs z) A B (int_value z m) h l

pub count_within : (k A B : ℕ) → k ≤ A → B ≤ k → k ≤ 2 ^ 53 → Within (count k) A 1 B 1
count_within k A B h l m = int_between (pos k) A B h l m

-- ---- ranges from what a program tests, and of closed floats
positive_sign : (x : Float) → T (positive x) → negative x ≡ false
positive_sign nan p = absurd p
positive_sign (inf s) p = absurd p
positive_sign (fin true m e) p = absurd p
positive_sign (fin false m e) p = refl

pub tested_within : (lo x hi : Float) → T (positive lo) → T (positive hi) → T (le lo x) → T (le x hi) → Within x (num hi) (den hi) (num lo) (den lo)
tested_within lo x hi p q h k =
    let r = between lo x hi p q h k in
    let s = positive_sign x r in
    (most_of_le x hi (num hi) (den hi) s (den_pos hi) (own_value hi q) k, least_of_le lo x (num lo) (den lo) s (positive-finite x r) (den_pos lo) (own_value lo p) h)

-- lo is no larger in size than hi: -hi, or a zero
pub tested_sized : (lo x hi : Float) → T (finite lo) → T (positive hi) → T (leb (num lo * den hi) (num hi * den lo)) → T (le lo x) → T (le x hi) → Sized x (num hi) (den hi)
tested_sized lo x hi p q l h k =
    let f = positive-finite hi q in
    let r = between_finite lo x hi p f h k in
    let up : Below (negative x) (num x * den hi) false (num hi * den x) = rw (positive_sign hi q) at (le→below x hi r f k) in
    record { over = den_pos hi; fine = r; sign = refl; most = both (negative lo) (negative x) (le→below lo x p r h) up }
  where
    both : (t s : Bool) → Below t (num lo * den x) s (num x * den lo) → Below s (num x * den hi) false (num hi * den x) → num x * den hi ≤ num hi * den x
    both t false h k = k
    both false true h k = through (num x) (num lo) (num hi) (den x) (den lo) (den hi) (den_pos lo) (omega arith) (leb→le (num lo * den hi) (num hi * den lo) l)
    both true true h k = through (num x) (num lo) (num hi) (den x) (den lo) (den hi) (den_pos lo) h (leb→le (num lo * den hi) (num hi * den lo) l)

pub literal : (x : Float) (A C B E : ℕ) → T (finite x) → T (ltb 0 C) → T (ltb 0 E) → T (leb (num x * C) (A * den x)) → T (leb (B * den x) (num x * E)) → Between x (negative x) A C B E
literal x A C B E p c e h k = (
  record { over = ltb→lt 0 C c; fine = p; sign = refl; most = leb→le (num x * C) (A * den x) h },
  record { over = ltb→lt 0 E e; least = leb→le (B * den x) (num x * E) k },
)

-- ---- and to what a program tests
pub most_le : {x : Float} {s : Bool} {A C : ℕ} → Most x s A C → (hi : Float) → T (positive hi) → T (leb (A * den hi) (num hi * C)) → T (le x hi)
most_le {x} {s} {A} {C} h hi q l =
    below→le x hi h.fine (positive-finite hi q)
    (rw (positive_sign hi q) (go (negative x) (through (num x) A (num hi) (den x) C (den hi) h.over h.most (leb→le (A * den hi) (num hi * C) l))))
  where
    go : (s : Bool) {a b : ℕ} → a ≤ b → Below s a false b
    go true h = zero-le
    go false h = h

neg_neg : (x : Float) → neg (neg x) ≡ x
unfolding neg
neg_neg nan = refl
neg_neg (inf true) = refl
neg_neg (inf false) = refl
neg_neg (fin true m e) = refl
neg_neg (fin false m e) = refl

pub most_ge : {x : Float} {s : Bool} {A C : ℕ} → Most x s A C → (hi : Float) → T (positive hi) → T (leb (A * den hi) (num hi * C)) → T (le (neg hi) x)
most_ge {x} h hi q l = subst (λ (z : Float). T (le (neg hi) z)) (neg_neg x) (neg_le (neg x) hi (most_le (neg_most h) hi q l))

pub within_positive : {x : Float} {A C B E : ℕ} → Within x A C B E → T (ltb 0 B) → T (positive x)
within_positive {x} {B = B} {E} w b = go x w.0.fine w.0.sign w.1.least
  where
    go : (x : Float) → T (finite x) → negative x ≡ false → B * den x ≤ num x * E → T (positive x)
    go nan p s l = absurd p
    go (inf t) p s l = absurd p
    go (fin true m e) p s l = absurd (true≢false s)
    go (fin false m e) p s l = lt→ltb 0 m (first_pos m (up e) (first_pos (m * up e) E (lt_of_lt_of_le (mul-pos (ltb→lt 0 B b) (down_pos e)) l)))

pub within_ge : {x : Float} {A C B E : ℕ} → Within x A C B E → (lo : Float) → T (positive lo) → T (ltb 0 B) → T (leb (num lo * E) (B * den lo)) → T (le lo x)
within_ge {x} {A} {C} {B} {E} w lo p b l = cross→le lo x p (within_positive w b) (through (num lo) B (num x) (den lo) E (den x) w.1.over (leb→le (num lo * E) (B * den lo) l) w.1.least)
