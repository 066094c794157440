-- `le` and `lt` of finite floats, by the sizes ±a / c as natural numbers: ±a ≤ ±b is an inequality of naturals for each pair of signs. Assumes nothing.
use Rattle.std.specs.Prelude.{◌≡◌, refl, ◌⊎◌, ℕ, suc, ◌^◌, ◌+◌, ◌*◌, ◌≤◌, Bool, true, false, not, ◌&&◌, ◌||◌, T, ltb, eqb, ℤ, pos, negsuc, nat_abs, Float}
use Rattle.std.proofs.Common.{sym, inl, inr, zero-le, le_of_eq, le_of_lt, lt_of_not-le, eq-or-lt_of_le, arith, true≢false, eqb→eq, ltb→lt, lt→ltb, nltb→le}
use Rattle.std.specs.Float.{nan, inf, fin, binary64}
use Rattle.std.specs.Float.Ieee.{up, down, le, lt, neg, of_int, below, level}
use Rattle.std.specs.Float.Ieee.Back.{round_whole}
use Rattle.std.specs.Float.Ieee.Exact.{HasValue}
use Rattle.std.specs.Float.Ieee.Fits.{and_i, and_l, and_r, eq→eqb}
use Rattle.std.specs.Float.Ieee.Positive.{num, den}
use Rattle.std.specs.Float.Ieee.Scale.{finite}
use Rattle.binary64.specs.Operators.{negative}

or_l : (a b : Bool) → T a → T (a || b)
or_l true b t = tt
or_l false b t = absurd t

or_r : (a b : Bool) → T b → T (a || b)
or_r true b t = tt
or_r false b t = t

or_split : (a b : Bool) → T (a || b) → T a ⊎ T b
or_split true b t = inl tt
or_split false b t = inr t

-- ±a ≤ ±b, negative where the sign is true
abbrev pub Below : Bool → ℕ → Bool → ℕ → Type 0
Below false a false b = a ≤ b
Below false a true b = a + b ≤ 0
Below true a false b = 0 ≤ a + b
Below true a true b = b ≤ a

test→below : (s : Bool) (a : ℕ) (t : Bool) (b : ℕ) → T (below s a t b || level s a t b) → Below s a t b
test→below false a false b h = elim (or_split (ltb a b) (eqb a b && true) h) [ inl u ↦ le_of_lt (ltb→lt a b u) | inr u ↦ le_of_eq (eqb→eq a b (and_l (eqb a b) true u)) ]
test→below false a true b h = let x = eqb→eq a b (and_l (eqb a b) (eqb a 0) h) in let y = eqb→eq a 0 (and_r (eqb a b) (eqb a 0) h) in omega arith
test→below true a false b h = zero-le
test→below true a true b h = elim (or_split (ltb b a) (eqb a b && true) h) [ inl u ↦ le_of_lt (ltb→lt b a u) | inr u ↦ le_of_eq (sym (eqb→eq a b (and_l (eqb a b) true u))) ]

both_zero : (a b : ℕ) → a + b ≤ 0 → T (eqb a b && (false || eqb a 0))
both_zero a b h =
    let x : a ≡ b = omega arith in
    let y : a ≡ 0 = omega arith in
    and_i (eqb a b) (eqb a 0) (eq→eqb x) (eq→eqb y)

below→test : (s : Bool) (a : ℕ) (t : Bool) (b : ℕ) → Below s a t b → T (below s a t b || level s a t b)
below→test false a false b h = elim (eq-or-lt_of_le h) [ inl e ↦ or_r (ltb a b) (eqb a b && true) (and_i (eqb a b) true (eq→eqb e) tt) | inr l ↦ or_l (ltb a b) (eqb a b && true) (lt→ltb a b l) ]
below→test false a true b h = both_zero a b h
below→test true a true b h = elim (eq-or-lt_of_le h) [ inl e ↦ or_r (ltb b a) (eqb a b && true) (and_i (eqb a b) true (eq→eqb (sym e)) tt) | inr l ↦ or_l (ltb b a) (eqb a b && true) (lt→ltb b a l) ]
below→test true a false b h = go (ltb 0 (a + b)) (nltb→le 0 (a + b))
  where
    go : (z : Bool) → (T (not z) → a + b ≤ 0) → T (z || (eqb a b && (false || eqb a 0)))
    go true k = tt
    go false k = both_zero a b (k tt)

-- ---- a float given as the fraction ±a / c
pub value_finite : (x : Float) (s : Bool) (a c : ℕ) → HasValue x s a c → T (finite x)
value_finite nan s a c h = absurd h
value_finite (inf t) s a c h = absurd h
value_finite (fin t m e) s a c h = tt

pub value_sign : (x : Float) (s : Bool) (a c : ℕ) → HasValue x s a c → negative x ≡ s
value_sign nan s a c h = absurd h
value_sign (inf t) s a c h = absurd h
value_sign (fin t m e) s a c h = h.0

pub value_cross : (x : Float) (s : Bool) (a c : ℕ) → HasValue x s a c → num x * c ≡ a * den x
value_cross nan s a c h = absurd h
value_cross (inf t) s a c h = absurd h
value_cross (fin t m e) s a c h = h.1

-- a whole number up to 2 ^ 53 in size is held
abbrev pub below_zero_lem : ℤ → Bool
below_zero_lem (pos n) = false
below_zero_lem (negsuc n) = true

pub int_value : (z : ℤ) → nat_abs z ≤ 2 ^ 53 → HasValue (of_int binary64 z) (below_zero_lem z) (nat_abs z) 1
unfolding of_int
int_value (pos n) h = round_whole binary64 false n h
int_value (negsuc n) h = round_whole binary64 true (suc n) h

-- ---- the order of finite floats
le_is : (x y : Float) → T (finite x) → T (finite y) → le x y ≡ (below (negative x) (num x * den y) (negative y) (num y * den x) || level (negative x) (num x * den y) (negative y) (num y * den x))
unfolding le
le_is nan y p q = absurd p
le_is (inf s) y p q = absurd p
le_is (fin s m e) nan p q = absurd q
le_is (fin s m e) (inf t) p q = absurd q
le_is (fin s m e) (fin t n d) p q = refl

lt_is : (x y : Float) → T (finite x) → T (finite y) → lt x y ≡ below (negative x) (num x * den y) (negative y) (num y * den x)
unfolding lt
lt_is nan y p q = absurd p
lt_is (inf s) y p q = absurd p
lt_is (fin s m e) nan p q = absurd q
lt_is (fin s m e) (inf t) p q = absurd q
lt_is (fin s m e) (fin t n d) p q = refl

module _ (x y : Float) (p : T (finite x)) (q : T (finite y)) where
  pub le→below : T (le x y) → Below (negative x) (num x * den y) (negative y) (num y * den x)
  le→below h = test→below (negative x) (num x * den y) (negative y) (num y * den x) (rw (le_is x y p q) at h)

  pub below→le : Below (negative x) (num x * den y) (negative y) (num y * den x) → T (le x y)
  below→le h = rw (le_is x y p q) (below→test (negative x) (num x * den y) (negative y) (num y * den x) h)

-- `lt` is the other way round not `le`
test→not : (s : Bool) (a : ℕ) (t : Bool) (b : ℕ) → T (below s a t b) → Below t b s a → ⊥
test→not false a false b h k = let l = ltb→lt a b h in omega arith
test→not false a true b h k = absurd h
test→not true a false b h k = let l = ltb→lt 0 (a + b) h in omega arith
test→not true a true b h k = let l = ltb→lt b a h in omega arith

not→test : (s : Bool) (a : ℕ) (t : Bool) (b : ℕ) → (Below t b s a → ⊥) → T (below s a t b)
not→test false a false b h = lt→ltb a b (lt_of_not-le h)
not→test false a true b h = absurd (h zero-le)
not→test true a false b h = lt→ltb 0 (a + b) (lt_of_not-le (λ (k : a + b ≤ 0). h (omega arith)))
not→test true a true b h = lt→ltb b a (lt_of_not-le h)

module _ (x y : Float) (p : T (finite x)) (q : T (finite y)) where
  pub lt→not : T (lt x y) → T (le y x) → ⊥
  lt→not h k = test→not (negative x) (num x * den y) (negative y) (num y * den x) (rw (lt_is x y p q) at h) (le→below y x q p k)

  pub not→lt : (T (le y x) → ⊥) → T (lt x y)
  not→lt h = rw (lt_is x y p q) (not→test (negative x) (num x * den y) (negative y) (num y * den x) (λ (k : Below (negative y) (num y * den x) (negative x) (num x * den y)). h (below→le y x q p k)))

-- what lies between two finite floats is finite
pub between_finite : (lo x hi : Float) → T (finite lo) → T (finite hi) → T (le lo x) → T (le x hi) → T (finite x)
unfolding le
between_finite lo (fin t n d) hi p q h k = tt
between_finite lo nan hi p q h k = absurd k
between_finite lo (inf false) nan p q h k = absurd q
between_finite lo (inf false) (inf t) p q h k = absurd q
between_finite lo (inf false) (fin t n d) p q h k = absurd k
between_finite nan (inf true) hi p q h k = absurd p
between_finite (inf t) (inf true) hi p q h k = absurd p
between_finite (fin t n d) (inf true) hi p q h k = absurd h

-- at or above a zero, and at or below a finite float
pub sign_finite : (x hi : Float) → negative x ≡ false → T (finite hi) → T (le x hi) → T (finite x)
unfolding le
sign_finite (fin t n d) hi s q k = tt
sign_finite nan hi s q k = absurd k
sign_finite (inf true) hi s q k = absurd (true≢false s)
sign_finite (inf false) nan s q k = absurd q
sign_finite (inf false) (inf t) s q k = absurd q
sign_finite (inf false) (fin t n d) s q k = absurd k

-- ---- negation turns the order round, at infinities too
turn : (s t : Bool) (a b : ℕ) → Below s a t b → Below (not t) b (not s) a
turn false false a b h = h
turn false true a b h = omega arith
turn true false a b h = omega arith
turn true true a b h = h

pub neg_le : (x y : Float) → T (le x y) → T (le (neg y) (neg x))
unfolding le neg
neg_le nan y h = absurd h
neg_le (inf s) nan h = absurd h
neg_le (inf false) (inf false) h = tt
neg_le (inf false) (inf true) h = absurd h
neg_le (inf true) (inf false) h = tt
neg_le (inf true) (inf true) h = tt
neg_le (inf false) (fin t n d) h = absurd h
neg_le (inf true) (fin t n d) h = tt
neg_le (fin s m e) nan h = absurd h
neg_le (fin s m e) (inf false) h = tt
neg_le (fin s m e) (inf true) h = absurd h
neg_le (fin s m e) (fin t n d) h = below→test (not t) (n * up d * down e) (not s) (m * up e * down d) (turn s t (m * up e * down d) (n * up d * down e) (test→below s (m * up e * down d) t (n * up d * down e) h))
