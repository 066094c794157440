-- Where the last k terms of the series come to one number from 3/4 and from 5/4, the whole series comes to it: each term keeps the order of two numbers
-- or turns it round, and what the terms before give lies between 3/4 and 5/4. Assumes nothing.
use mathlib.Core.Path.{◌≡◌, refl, sym, ap, ◌∙◌, subst}
use mathlib.Core.Logic.{◌⊎◌, inl, inr}
use mathlib.Core.List.{[], ◌∷◌}
use mathlib.Core.Bool.{Bool, true, false, ◌||◌, beq}
use Prim.Native.Nat.{ℕ, zero, suc, ◌+◌, ◌-◌, ◌*◌, ◌^◌, ◌≤◌}
use native.Mathlib.Nat.{le_trans, le-suc, le_of_eq, zero-lt-suc, add-zero, add-suc}
use native.Mathlib.Omega.{arith}
use lib.Dec.{T, eqb, eqb→eq, lit≤}
use lib.IntN.{pos}
use lib.Ieee.{Float, nan, inf, fin, binary64, up, down, le, eq, fits, of_bits, neg}
use lib.Ieee.Fits.{add-fits, and_l, and_r}
use lib.Ieee.Positive.{num, den, den_pos}
use lib.Ieee.Scale.{finite, round_same}
use Rattle.fraction.specs.Fraction.{nat, ◌≤F◌, ◌<F◌}
use Rattle.fraction.proofs.Field.{≈F-sym, ≤F-of-≈F}
use Rattle.fraction.proofs.Order.{lt_le_trans, nat_lt}
use Rattle.fraction.proofs.Certificate.{quote}
use Rattle.fraction.proofs.Certificate.{le_by}
use Rattle.binary64.specs.Operators.{◌⊕◌, ◌⊗◌, ◌⊘◌, count, negative}
use Rattle.binary64.specs.Representable.{own_round}
use Rattle.binary64.specs.Order.{le→below}
use Rattle.binary64.proofs.OrderLaws.{add_le, mul_le, mul_ge, div_le}
use Rattle.binary64.specs.Range.{Most, Within, Sized, most_wider}
use Rattle.binary64.proofs.RangeOps.{mul_most, div_count, add_over}
use Rattle.binary64.proofs.RangeTests.{tested_sized, literal, most_le, within_ge}
use Rattle.binary64.specs.Value.{ratio, val, val_is, ratio_nn}
use Rattle.binary64.proofs.Value.{int_val}
use Rattle.elementary.specs.Exp.{one, series}
use Rattle.elementary.specs.LastTerms.{start_low, start_high, last_terms, MeetAtSeries, eighth, within_eighth}
use Rattle.elementary.specs.declared.Bracket.{Bracket}
use Rattle.elementary.proofs.Constants.{at_1}

-- between 3/4 and 5/4, and a binary64
abbrev pub Near : Float → Type 0
Near a = Within a 5 4 3 4 × T (fits binary64 a)

abbrev term : Float → ℕ → Float → Float
term y k a = one ⊕ ((a ⊗ y) ⊘ count (suc k))

-- ---- the sign of a value
count_above : (k : ℕ) → suc k ≤ 2 ^ 53 → nat 0 <F val (count (suc k))
count_above k l = lt_le_trans (nat_lt 0 (suc k) (omega arith)) (≤F-of-≈F (≈F-sym (int_val (pos (suc k)) l)))

nonneg : (y : Float) → T (finite y) → negative y ≡ false → nat 0 ≤F val y
nonneg y p s = rw (val_is y p, s) (ratio_nn (num y) (den y) (den_pos y))

nonpos : (y : Float) → T (finite y) → negative y ≡ true → val y ≤F nat 0
nonpos y p s = rw (val_is y p, s) (le_by (ratio (num y) (den y) (den_pos y) ∷ []) 0 (ratio_nn (num y) (den y) (den_pos y)) (search quote depth 24) tt)

pub one_le : T (le one one)
unfolding le of_bits
one_le = tt

-- ---- one term
module _ (y : Float) (Y : Sized y 1 8) (k : ℕ) (l : suc k ≤ 2 ^ 53) where
  product : {a : Float} → Near a → Most (a ⊗ y) (negative (a ⊗ y)) 1 4
  product {a} A = let m = mul_most A.0.0 Y 1 4 tt tt in record { over = m.over; fine = m.fine; sign = refl; most = m.most }

  quotient : {a : Float} → Near a → Most ((a ⊗ y) ⊘ count (suc k)) (negative (a ⊗ y)) 1 4
  quotient A = div_count (product A) (suc k) 1 1 4 (zero-lt-suc k) l tt tt tt

  near_term : {a : Float} → Near a → Near (term y k a)
  near_term {a} A = (add_over at_1 (quotient A) 5 4 3 4 tt tt tt tt tt, add-fits binary64 one ((a ⊗ y) ⊘ count (suc k)))

  module _ {a b : Float} (A : Near a) (B : Near b) (h : T (le a b)) where
    keeps : nat 0 ≤F val y → T (le (term y k a) (term y k b))
    keeps n =
        add_le one one ((a ⊗ y) ⊘ count (suc k)) ((b ⊗ y) ⊘ count (suc k)) at_1.0.fine at_1.0.fine (quotient A).fine (quotient B).fine one_le
        (div_le (a ⊗ y) (b ⊗ y) (count (suc k)) (product A).fine (product B).fine (mul_le a b y A.0.0.fine B.0.0.fine h Y.fine n) (count_above k l))

    turns : val y ≤F nat 0 → T (le (term y k b) (term y k a))
    turns n =
        add_le one one ((b ⊗ y) ⊘ count (suc k)) ((a ⊗ y) ⊘ count (suc k)) at_1.0.fine at_1.0.fine (quotient B).fine (quotient A).fine one_le
        (div_le (b ⊗ y) (a ⊗ y) (count (suc k)) (product B).fine (product A).fine (mul_ge a b y A.0.0.fine B.0.0.fine h Y.fine n) (count_above k l))

-- ---- all terms
-- x lies between p and q, either way round
abbrev Enclosed : Float → Float → Float → Type 0
Enclosed p x q = (T (le p x) × T (le x q)) ⊎ (T (le q x) × T (le x p))

enclosed_term : (s : Bool) (y : Float) → negative y ≡ s → (Y : Sized y 1 8) (k : ℕ) → suc k ≤ 2 ^ 53 → {p x q : Float} → Near p → Near x → Near q → Enclosed p x q → Enclosed (term y k p) (term y k x) (term y k q)
enclosed_term false y e Y k l P X Q (inl h) = let n = nonneg y Y.fine e in inl (keeps y Y k l P X h.0 n, keeps y Y k l X Q h.1 n)
enclosed_term false y e Y k l P X Q (inr h) = let n = nonneg y Y.fine e in inr (keeps y Y k l Q X h.0 n, keeps y Y k l X P h.1 n)
enclosed_term true y e Y k l P X Q (inl h) = let n = nonpos y Y.fine e in inr (turns y Y k l X Q h.1 n, turns y Y k l P X h.0 n)
enclosed_term true y e Y k l P X Q (inr h) = let n = nonpos y Y.fine e in inl (turns y Y k l X P h.1 n, turns y Y k l Q X h.0 n)

near_series : (k : ℕ) (y a : Float) → k ≤ 2 ^ 53 → Sized y 1 8 → Near a → Near (series k y a)
unfolding series
near_series zero y a l Y A = A
near_series (suc k) y a l Y A = near_series k y (term y k a) (le_trans (le-suc k) l) Y (near_term y Y k l A)

enclosed_series : (k : ℕ) (y p x q : Float) → k ≤ 2 ^ 53 → Sized y 1 8 → Near p → Near x → Near q → Enclosed p x q → Enclosed (series k y p) (series k y x) (series k y q)
unfolding series
enclosed_series zero y p x q l Y P X Q h = h
enclosed_series (suc k) y p x q l Y P X Q h =
    enclosed_series k y (term y k p) (term y k x) (term y k q) (le_trans (le-suc k) l) Y (near_term y Y k l P) (near_term y Y k l X) (near_term y Y k l Q) (enclosed_term (negative y) y refl Y k l P X Q h)

-- what the n terms before the last k give
abbrev before : ℕ → ℕ → Float → Float → Float
before zero k y a = a
before (suc n) k y a = before n k y (term y (k + n) a)

series_parts : (n k : ℕ) (y a : Float) → series (k + n) y a ≡ series k y (before n k y a)
unfolding series
series_parts zero k y a = ap (λ (j : ℕ). series j y a) (add-zero k)
series_parts (suc n) k y a = ap (λ (j : ℕ). series j y a) (add-suc k n) ∙ series_parts n k y (term y (k + n) a)

near_before : (n k : ℕ) (y a : Float) → k + n ≤ 2 ^ 53 → Sized y 1 8 → Near a → Near (before n k y a)
near_before zero k y a l Y A = A
near_before (suc n) k y a l Y A =
    let h : suc (k + n) ≤ 2 ^ 53 = subst (λ (j : ℕ). j ≤ 2 ^ 53) (add-suc k n) l in
    near_before n k y (term y (k + n) a) (le_trans (le-suc (k + n)) h) Y (near_term y Y (k + n) h A)

-- ---- two binary64s of the sign + with one value are the same
one_value : {x y : Float} → Near x → Near y → num x * den y ≡ num y * den x → x ≡ y
one_value {x} {y} X Y e =
    own_round binary64 x X.0.0.fine X.1
    ∙ rw (X.0.0.sign, Y.0.0.sign) (round_same binary64 false (num x) (den x) (num y) (den y) (den_pos x) (den_pos y) e)
    ∙ sym (own_round binary64 y Y.0.0.fine Y.1)

equal_values : (x y : Float) → T (eq x y) → num x * den y ≡ num y * den x
unfolding eq
equal_values nan y h = absurd h
equal_values (inf s) nan h = absurd h
equal_values (inf s) (inf t) h = refl
equal_values (inf s) (fin t n d) h = absurd h
equal_values (fin s m e) nan h = absurd h
equal_values (fin s m e) (inf t) h = absurd h
equal_values (fin s m e) (fin t n d) h =
    let a = m * up e * down d in
    let b = n * up d * down e in
    eqb→eq a b (and_l (eqb a b) (beq s t || eqb a 0) h)

pub antisym : {x y : Float} → Near x → Near y → T (le x y) → T (le y x) → x ≡ y
antisym {x} {y} X Y h k = one_value X Y (omega (arith, a, b))
  where
    a : num x * den y ≤ num y * den x
    a = rw (X.0.0.sign, Y.0.0.sign) at (le→below x y X.0.0.fine Y.0.0.fine h)

    b : num y * den x ≤ num x * den y
    b = rw (X.0.0.sign, Y.0.0.sign) at (le→below y x Y.0.0.fine X.0.0.fine k)

-- ---- the law
low_near : Near start_low
unfolding fits of_bits
low_near = (literal start_low 5 4 3 4 tt tt tt tt tt, tt)

high_near : Near start_high
unfolding fits of_bits
high_near = (literal start_high 5 4 3 4 tt tt tt tt tt, tt)

pub one_near : Near one
unfolding fits of_bits
one_near = (literal one 5 4 3 4 tt tt tt tt tt, tt)

starts_enclose : {x : Float} → Near x → Enclosed start_low x start_high
unfolding of_bits
starts_enclose X = inl (within_ge X.0 start_low tt tt tt, most_le X.0.0 start_high tt tt)

sized : (y : Float) → within_eighth y ≡ true → Sized y 1 8
unfolding neg of_bits
sized y e =
    let t : T (within_eighth y) = subst T (sym e) tt in
    let w = tested_sized (neg eighth) y eighth tt tt tt (and_l (le (neg eighth) y) (le y eighth) t) (and_r (le (neg eighth) y) (le y eighth) t) in
    most_wider w 1 8 tt tt

meets : {p x q : Float} → Near p → Near x → Near q → Enclosed p x q → T (eq p q) → x ≡ p
meets {p} {x} {q} P X Q (inl h) e = antisym X P (subst (λ (z : Float). T (le x z)) (sym (one_value P Q (equal_values p q e))) h.1) h.0
meets {p} {x} {q} P X Q (inr h) e = antisym X P h.1 (subst (λ (z : Float). T (le z x)) (sym (one_value P Q (equal_values p q e))) h.0)

pub last_terms_meet : (k : ℕ) (y : Float) (r : Bracket) → r ≡ last_terms k y → k ≤ 18 → within_eighth y ≡ true → MeetAtSeries r y
last_terms_meet k y r is l s t =
    let p = series k y start_low in
    let q = series k y start_high in
    let m : eq p q ≡ true = subst (λ (z : Bracket). eq z.low z.high ≡ true) is t in
    let Y = sized y s in
    let e : k + (18 - k) ≡ 18 = omega (arith, l) in
    let big : k ≤ 2 ^ 53 = le_trans l (lit≤ tt) in
    let x = before (18 - k) k y one in
    let X : Near x = near_before (18 - k) k y one (le_trans (le_of_eq e) (lit≤ tt)) Y one_near in
    let between = enclosed_series k y start_low x start_high big Y low_near X high_near (starts_enclose X) in
    let P = near_series k y start_low big Y low_near in
    let Q = near_series k y start_high big Y high_near in
    ap (λ (z : Bracket). z.low) is
    ∙ sym (meets P (near_series k y x big Y X) Q between (subst T (sym m) tt))
    ∙ sym (series_parts (18 - k) k y one)
    ∙ ap (λ (j : ℕ). series j y one) e
