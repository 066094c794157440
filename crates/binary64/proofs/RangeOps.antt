-- The range of each operation's result from the ranges of its operands. What is asked is that the new bounds are values of binary64 and one inequality of closed numbers for each:
-- `tt` proves them. Of `Between x s A C B E` the size of x is from B / E to A / C, and its sign is s. Assumes nothing.
use Rattle.std.specs.Prelude.{◌≡◌, refl, ◌⊎◌, ℕ, ◌+◌, ◌*◌, ◌^◌, ◌≤◌, ◌<◌, Bool, true, false, not, ◌||◌, T, ltb, leb, Float}
use Rattle.std.proofs.Common.{sym, ap₂, subst, subst₂, inl, inr, zero-le, le_trans, le_of_eq, le_refl, lt_of_lt_of_le, lt_of_mul-lt-mul_right, mul-pos, mul_comm, mul_assoc, mul_left_comm, add-mul, mul-add, zero-mul, mul-le-mul, mul-le-mul_right, le_of_mul-le-mul_right, arith, ltb→lt, leb→le, le→leb}
use Rattle.std.specs.Float.{binary64}
use Rattle.std.specs.Float.Ieee.{unlike}
use Rattle.std.specs.Float.Ieee.Positive.{num, den, den_pos, first_pos}
use Rattle.binary64.specs.Operators.{◌⊕◌, ◌⊖◌, ◌⊗◌, ◌⊘◌, count, negative}
use Rattle.binary64.specs.Opened.{mul_is, div_is, sub_is, plus, minus, Summed, add_summed}
use Rattle.binary64.specs.Range.{exact, Most, Between, Sized, sized, neg_most, neg_least}
use Rattle.binary64.proofs.Range.{exact_over, round_most, round_between}
-- (where ranges start, so that one line brings in all)
pub use Rattle.binary64.specs.Range.{least_zero}
pub use Rattle.binary64.proofs.RangeTests.{literal, tested_within, tested_sized, int_between, count_within}

-- ---- products and sums of fractions of naturals: with x / p ≤ A / C and y / q ≤ B / D
ruleset expand = (add-mul, mul-add, mul_assoc, mul_comm, mul_left_comm)

module _ (x p A C y q B D G H : ℕ) (P : 0 < C) (Q : 0 < D) where
  times_le : x * C ≤ A * p → y * D ≤ B * q → A * B * H ≤ G * (C * D) → x * y * H ≤ G * (p * q)
  times_le h k l =
      let a = simp expand at (mul-le-mul_right H (mul-le-mul h k)) in
      let b = simp expand at (mul-le-mul_right (p * q) l) in
      let z : x * y * H * (C * D) ≤ G * (p * q) * (C * D) = simp expand (omega arith) in
      le_of_mul-le-mul_right z (mul-pos P Q)

  times_ge : A * p ≤ x * C → B * q ≤ y * D → G * (C * D) ≤ A * B * H → G * (p * q) ≤ x * y * H
  times_ge h k l =
      let a = simp expand at (mul-le-mul_right H (mul-le-mul h k)) in
      let b = simp expand at (mul-le-mul_right (p * q) l) in
      let z : G * (p * q) * (C * D) ≤ x * y * H * (C * D) = simp expand (omega arith) in
      le_of_mul-le-mul_right z (mul-pos P Q)

  sum_le : x * C ≤ A * p → y * D ≤ B * q → (A * D + B * C) * H ≤ G * (C * D) → (x * q + y * p) * H ≤ G * (p * q)
  sum_le h k l =
      let a = simp expand at (mul-le-mul_right (q * D * H) h) in
      let b = simp expand at (mul-le-mul_right (p * C * H) k) in
      let c = simp expand at (mul-le-mul_right (p * q) l) in
      let z : (x * q + y * p) * H * (C * D) ≤ G * (p * q) * (C * D) = simp expand (omega arith) in
      le_of_mul-le-mul_right z (mul-pos P Q)

  sum_ge : A * p ≤ x * C → B * q ≤ y * D → G * (C * D) ≤ (A * D + B * C) * H → G * (p * q) ≤ (x * q + y * p) * H
  sum_ge h k l =
      let a = simp expand at (mul-le-mul_right (q * D * H) h) in
      let b = simp expand at (mul-le-mul_right (p * C * H) k) in
      let c = simp expand at (mul-le-mul_right (p * q) l) in
      let z : G * (p * q) * (C * D) ≤ (x * q + y * p) * H * (C * D) = simp expand (omega arith) in
      le_of_mul-le-mul_right z (mul-pos P Q)

  -- G / H + B / D ≤ A / C, and A / C ≤ x / p
  rest_ge : A * p ≤ x * C → y * D ≤ B * q → (G * D + B * H) * C ≤ A * (H * D) → G * (p * q) + y * p * H ≤ x * q * H
  rest_ge h k l =
      let a = simp expand at (mul-le-mul_right (q * D * H) h) in
      let b = simp expand at (mul-le-mul_right (p * C * H) k) in
      let c = simp expand at (mul-le-mul_right (p * q) l) in
      let z : (G * (p * q) + y * p * H) * (C * D) ≤ x * q * H * (C * D) = simp expand (omega arith) in
      le_of_mul-le-mul_right z (mul-pos P Q)

  -- A / C ≤ G / H + B / D, and B / D ≤ y / q
  rest_le : x * C ≤ A * p → B * q ≤ y * D → A * (H * D) ≤ (G * D + B * H) * C → x * q * H ≤ G * (p * q) + y * p * H
  rest_le h k l =
      let a = simp expand at (mul-le-mul_right (q * D * H) h) in
      let b = simp expand at (mul-le-mul_right (p * C * H) k) in
      let c = simp expand at (mul-le-mul_right (p * q) l) in
      let z : x * q * H * (C * D) ≤ (G * (p * q) + y * p * H) * (C * D) = simp expand (omega arith) in
      le_of_mul-le-mul_right z (mul-pos P Q)

-- ---- ⊗
pub mul_between : {x y : Float} {s t : Bool} {A C B E A' C' B' E' : ℕ} → Between x s A C B E → Between y t A' C' B' E' → (G H K J : ℕ) → T (exact G H) → T (exact K J)
    → T (leb (A * A' * H) (G * (C * C'))) → T (leb (K * (E * E')) (B * B' * J)) → Between (x ⊗ y) (unlike s t) G H K J
mul_between {x} {y} {s} {t} {A} {C} {B} {E} {A'} {C'} {B'} {E'} h k G H K J e e' l m =
    subst₂ (λ (z : Float) (σ : Bool). Between z σ G H K J) (sym (mul_is binary64 x y h.0.fine k.0.fine)) (ap₂ unlike h.0.sign k.0.sign)
    (round_between (unlike (negative x) (negative y)) (num x * num y) (den x * den y) (mul-pos (den_pos x) (den_pos y)) G H K J e e'
    (times_le (num x) (den x) A C (num y) (den y) A' C' G H h.0.over k.0.over h.0.most k.0.most (leb→le (A * A' * H) (G * (C * C')) l))
    (times_ge (num x) (den x) B E (num y) (den y) B' E' K J h.1.over k.1.over h.1.least k.1.least (leb→le (K * (E * E')) (B * B' * J) m)))

pub mul_most : {x y : Float} {s t : Bool} {A C A' C' : ℕ} → Most x s A C → Most y t A' C' → (G H : ℕ) → T (exact G H) → T (leb (A * A' * H) (G * (C * C'))) → Most (x ⊗ y) (unlike s t) G H
mul_most h k G H e l = (mul_between (h, least_zero) (k, least_zero) G H 0 1 e tt l tt).0

-- ---- ⊘ by a divisor that is B' / E' at least, above 0
pub div_between : {x y : Float} {s t : Bool} {A C B E A' C' B' E' : ℕ} → Between x s A C B E → Between y t A' C' B' E' → (G H K J : ℕ) → T (ltb 0 B') → T (exact G H) → T (exact K J)
    → T (leb (A * E' * H) (G * (C * B'))) → T (leb (K * (E * A')) (B * C' * J)) → Between (x ⊘ y) (unlike s t) G H K J
div_between {x} {y} {s} {t} {A} {C} {B} {E} {A'} {C'} {B'} {E'} h k G H K J z e e' l m =
    let p : 0 < B' = ltb→lt 0 B' z in
    let n : 0 < num y = first_pos (num y) E' (lt_of_lt_of_le (mul-pos p (den_pos y)) k.1.least) in
    let a : 0 < A' = first_pos A' (den y) (lt_of_lt_of_le (mul-pos n k.0.over) k.0.most) in
    subst₂ (λ (z : Float) (σ : Bool). Between z σ G H K J) (sym (div_is binary64 x y h.0.fine k.0.fine n)) (ap₂ unlike h.0.sign k.0.sign)
    (round_between (unlike (negative x) (negative y)) (num x * den y) (num y * den x) (mul-pos n (den_pos x)) G H K J e e'
    (rw (mul_comm (num y) (den x)) (times_le (num x) (den x) A C (den y) (num y) E' B' G H h.0.over p h.0.most (simp mul_comm (simp mul_comm at k.1.least)) (leb→le (A * E' * H) (G * (C * B')) l)))
    (rw (mul_comm (num y) (den x)) (times_ge (num x) (den x) B E (den y) (num y) C' A' K J h.1.over a h.1.least (simp mul_comm (simp mul_comm at k.0.most)) (leb→le (K * (E * A')) (B * C' * J) m))))

pub div_most : {x y : Float} {s t : Bool} {A C A' C' B' E' : ℕ} → Most x s A C → Between y t A' C' B' E' → (G H : ℕ) → T (ltb 0 B') → T (exact G H) → T (leb (A * E' * H) (G * (C * B'))) → Most (x ⊘ y) (unlike s t) G H
div_most {A' = A'} {C'} h k G H z e l = (div_between (h, least_zero) k G H 0 1 z e tt l (le→leb (0 * (1 * A')) (0 * C' * 1) (le_trans (le_of_eq (zero-mul (1 * A'))) zero-le))).0

-- ---- ⊕
-- the size of the sum is at most that of both together; and at least that of the first less that of the second, of the first's sign, where the second is no larger
sizes : (s t σ : Bool) (p q n : ℕ) → plus s p + plus t q + minus σ n ≡ minus s p + minus t q + plus σ n → (n ≤ p + q) × (p ≤ n + q)
sizes false false false p q n e = (omega arith, omega arith)
sizes false false true p q n e = (omega arith, omega arith)
sizes false true false p q n e = (omega arith, omega arith)
sizes false true true p q n e = (omega arith, omega arith)
sizes true false false p q n e = (omega arith, omega arith)
sizes true false true p q n e = (omega arith, omega arith)
sizes true true false p q n e = (omega arith, omega arith)
sizes true true true p q n e = (omega arith, omega arith)

size_alike : (s : Bool) (p q n : ℕ) → plus s p + plus s q + minus s n ≡ minus s p + minus s q + plus s n → p + q ≤ n
size_alike false p q n e = omega arith
size_alike true p q n e = omega arith

over_sign : (s t σ : Bool) (p q n : ℕ) → plus s p + plus t q + minus σ n ≡ minus s p + minus t q + plus σ n → (s ≡ t → σ ≡ s) → (T σ → n ≡ 0 → T s) → q ≤ p → (T s → q < p) → σ ≡ s
over_sign false false σ p q n e a z l m = a refl
over_sign true true σ p q n e a z l m = a refl
over_sign false true false p q n e a z l m = refl
over_sign false true true p q n e a z l m = absurd (z tt (omega arith))
over_sign true false true p q n e a z l m = refl
over_sign true false false p q n e a z l m = absurd (let g = m tt in omega arith)

first_over : (s : Bool) (K J r p q : ℕ) → 0 < r → 0 < J → T (ltb 0 K || not s) → K * r + q * J ≤ p * J → (q ≤ p) × (T s → q < p)
first_over s K J r p q R P t h = (le_of_mul-le-mul_right g P, go s t)
  where
    g : q * J ≤ p * J
    g = omega arith

    go : (s : Bool) → T (ltb 0 K || not s) → T s → q < p
    go false t u = absurd u
    go true t u = lt_of_mul-lt-mul_right J (let k : 0 < K * r = mul-pos (ltb→lt 0 K (keep (ltb 0 K) t)) R in omega arith)
      where
        keep : (b : Bool) → T (b || false) → T b
        keep true t = tt
        keep false t = t

left : (K J r p q n : ℕ) → K * r + q * J ≤ p * J → p ≤ n + q → K * r ≤ n * J
left K J r p q n h k = let a = simp add-mul at (mul-le-mul_right J k) in omega arith

module _ {x y : Float} {s t : Bool} {A C A' C' : ℕ} (h : Most x s A C) (k : Most y t A' C') where
  summed : Summed binary64 (x ⊕ y) s (num x * den y) t (num y * den x) (den x * den y)
  summed = subst₂ (λ (a b : Bool). Summed binary64 (x ⊕ y) a (num x * den y) b (num y * den x) (den x * den y)) h.sign k.sign (add_summed binary64 x y h.fine k.fine)

  dens : 0 < den x * den y
  dens = mul-pos (den_pos x) (den_pos y)

  total_le : (G H : ℕ) → T (leb ((A * C' + A' * C) * H) (G * (C * C'))) → summed.size * H ≤ G * (den x * den y)
  total_le G H l =
      le_trans (mul-le-mul_right H (sizes s t summed.sign (num x * den y) (num y * den x) summed.size summed.adds).0)
      (sum_le (num x) (den x) A C (num y) (den y) A' C' G H h.over k.over h.most k.most (leb→le ((A * C' + A' * C) * H) (G * (C * C')) l))

  -- of any signs
  pub add_most : (G H : ℕ) → T (exact G H) → T (leb ((A * C' + A' * C) * H) (G * (C * C'))) → Sized (x ⊕ y) G H
  add_most G H e l = sized (subst (λ (z : Float). Most z summed.sign G H) (sym summed.is) (round_most summed.sign summed.size (den x * den y) dens G H e (total_le G H l)))

-- of one sign
pub add_alike : {x y : Float} {s : Bool} {A C B E A' C' B' E' : ℕ} → Between x s A C B E → Between y s A' C' B' E' → (G H K J : ℕ) → T (exact G H) → T (exact K J)
    → T (leb ((A * C' + A' * C) * H) (G * (C * C'))) → T (leb (K * (E * E')) ((B * E' + B' * E) * J)) → Between (x ⊕ y) s G H K J
add_alike {x} {y} {s} {A} {C} {B} {E} {A'} {C'} {B'} {E'} h k G H K J e e' l m =
    let w = summed h.0 k.0 in
    subst₂ (λ (z : Float) (σ : Bool). Between z σ G H K J) (sym w.is) (w.alike refl)
    (round_between w.sign w.size (den x * den y) (dens h.0 k.0) G H K J e e' (total_le h.0 k.0 G H l)
    (le_trans (sum_ge (num x) (den x) B E (num y) (den y) B' E' K J h.1.over k.1.over h.1.least k.1.least (leb→le (K * (E * E')) ((B * E' + B' * E) * J) m))
    (mul-le-mul_right J (size_alike s (num x * den y) (num y * den x) w.size (subst (λ (σ : Bool). plus s (num x * den y) + plus s (num y * den x) + minus σ w.size ≡ minus s (num x * den y) + minus s (num y * den x) + plus σ w.size) (w.alike refl) w.adds)))))

-- of opposite signs: the difference of the sizes, either way round
unlike_size : (s σ : Bool) (p q n : ℕ) → plus s p + plus (not s) q + minus σ n ≡ minus s p + minus (not s) q + plus σ n → (n + q ≤ p) ⊎ (n + p ≤ q)
unlike_size false false p q n e = inl (omega arith)
unlike_size false true p q n e = inr (omega arith)
unlike_size true false p q n e = inr (omega arith)
unlike_size true true p q n e = inl (omega arith)

drop : (n p q H B : ℕ) → n + q ≤ p → p * H ≤ B + q * H → n * H ≤ B
drop n p q H B h k = let a = simp add-mul at (mul-le-mul_right H h) in omega arith

pub add_unlike : {x y : Float} {s : Bool} {A C B E A' C' B' E' : ℕ} → Between x s A C B E → Between y (not s) A' C' B' E' → (G H : ℕ) → T (exact G H)
    → T (leb (A * (H * E')) ((G * E' + B' * H) * C)) → T (leb (A' * (H * E)) ((G * E + B * H) * C')) → Sized (x ⊕ y) G H
add_unlike {x} {y} {s} {A} {C} {B} {E} {A'} {C'} {B'} {E'} h k G H e l m =
    let w = summed h.0 k.0 in
    sized (subst (λ (z : Float). Most z w.sign G H) (sym w.is) (round_most w.sign w.size (den x * den y) (dens h.0 k.0) G H e
    (elim (unlike_size s w.sign (num x * den y) (num y * den x) w.size w.adds) [
      | inl g ↦ drop w.size (num x * den y) (num y * den x) H (G * (den x * den y)) g
          (rest_le (num x) (den x) A C (num y) (den y) B' E' G H h.0.over k.1.over h.0.most k.1.least (leb→le (A * (H * E')) ((G * E' + B' * H) * C) l))
      | inr g ↦ drop w.size (num y * den x) (num x * den y) H (G * (den x * den y)) g
          (rw (mul_comm (den x) (den y)) (rest_le (num y) (den y) A' C' (num x) (den x) B E G H k.0.over h.1.over k.0.most h.1.least (leb→le (A' * (H * E)) ((G * E + B * H) * C') m)))
    ])))

-- a second operand of any sign that is no larger than the first: K / J is what it leaves, above 0 where the first is negative
pub add_over : {x y : Float} {s t : Bool} {A C B E A' C' : ℕ} → Between x s A C B E → Most y t A' C' → (G H K J : ℕ) → T (ltb 0 K || not s) → T (exact G H) → T (exact K J)
    → T (leb ((A * C' + A' * C) * H) (G * (C * C'))) → T (leb ((K * C' + A' * J) * E) (B * (J * C'))) → Between (x ⊕ y) s G H K J
add_over {x} {y} {s} {t} {A} {C} {B} {E} {A'} {C'} h k G H K J z e e' l m =
    let w = summed h.0 k in
    let r = rest_ge (num x) (den x) B E (num y) (den y) A' C' K J h.1.over k.over h.1.least k.most (leb→le ((K * C' + A' * J) * E) (B * (J * C')) m) in
    let o = first_over s K J (den x * den y) (num x * den y) (num y * den x) (dens h.0 k) (exact_over K J e') z r in
    subst₂ (λ (z : Float) (σ : Bool). Between z σ G H K J) (sym w.is) (over_sign s t w.sign (num x * den y) (num y * den x) w.size w.adds w.alike w.zero_sign o.0 o.1)
    (round_between w.sign w.size (den x * den y) (dens h.0 k) G H K J e e' (total_le h.0 k G H l)
    (left K J (den x * den y) (num x * den y) (num y * den x) w.size r (sizes s t w.sign (num x * den y) (num y * den x) w.size w.adds).1))

-- ---- ⊖ is ⊕ of the negative
pub sub_most : {x y : Float} {s t : Bool} {A C A' C' : ℕ} → Most x s A C → Most y t A' C' → (G H : ℕ) → T (exact G H) → T (leb ((A * C' + A' * C) * H) (G * (C * C'))) → Sized (x ⊖ y) G H
sub_most {x} {y} h k G H e l = subst (λ (z : Float). Sized z G H) (sym (sub_is binary64 x y)) (add_most h (neg_most k) G H e l)

pub sub_over : {x y : Float} {s t : Bool} {A C B E A' C' : ℕ} → Between x s A C B E → Most y t A' C' → (G H K J : ℕ) → T (ltb 0 K || not s) → T (exact G H) → T (exact K J)
    → T (leb ((A * C' + A' * C) * H) (G * (C * C'))) → T (leb ((K * C' + A' * J) * E) (B * (J * C'))) → Between (x ⊖ y) s G H K J
sub_over {x} {y} {s} h k G H K J z e e' l m = subst (λ (w : Float). Between w s G H K J) (sym (sub_is binary64 x y)) (add_over h (neg_most k) G H K J z e e' l m)

-- of one sign
pub sub_alike : {x y : Float} {s : Bool} {A C B E A' C' B' E' : ℕ} → Between x s A C B E → Between y s A' C' B' E' → (G H : ℕ) → T (exact G H)
    → T (leb (A * (H * E')) ((G * E' + B' * H) * C)) → T (leb (A' * (H * E)) ((G * E + B * H) * C')) → Sized (x ⊖ y) G H
sub_alike {x} {y} h k G H e l m = subst (λ (w : Float). Sized w G H) (sym (sub_is binary64 x y)) (add_unlike h (neg_most k.0, neg_least k.1) G H e l m)

-- ---- quotients by whole numbers
unlike_plus : (s : Bool) → unlike s false ≡ s
unlike_plus true = refl
unlike_plus false = refl

-- by a whole number k that is B at least
pub div_count : {x : Float} {s : Bool} {A C : ℕ} → Most x s A C → (k B G H : ℕ) → B ≤ k → k ≤ 2 ^ 53 → T (ltb 0 B) → T (exact G H) → T (leb (A * 1 * H) (G * (C * B))) → Most (x ⊘ count k) s G H
div_count {x} {s} h k B G H l m p e n = subst (λ (b : Bool). Most (x ⊘ count k) b G H) (unlike_plus s) (div_most h (count_within k k B (le_refl k) l m) G H p e n)
