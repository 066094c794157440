-- A float near a fraction. `Near x q κ k b`: x is finite, |x − q| ≤ k · κ / 2 ^ 53 and |q| ≤ b · κ. κ is the scale of the quantity, k counts roundings and b its size in scales.
-- Each operation carries it on and adds what its own rounding does; the counts stay so small that all products of errors come to less than one more. Assumes nothing.
use Rattle.std.proofs.Common.{ap, mul-le-mul, arith, leb→le, ltb→lt, lit≤}
use Rattle.std.specs.Prelude.{[], ◌∷◌, ℕ, ◌+◌, ◌*◌, ◌^◌, ◌≤◌, ◌<◌, T, leb, ltb, pos, Float}
use Rattle.std.specs.Float.Ieee.{neg}
use Rattle.std.specs.Float.Ieee.Scale.{finite}
use Rattle.fraction.specs.Integer.{pos-≤}
use Rattle.fraction.specs.Fraction.{Fraction, whole, nat, frac, ◌+F◌, neg_f, ◌-F◌, ◌*F◌, ◌/F◌, inv, ◌≈F◌, ◌≤F◌, ◌<F◌, ◌within◌}
use Rattle.fraction.proofs.Field.{≈F-refl, ≤F-of-≈F, nn-nat_f, lt_not_le, lt_of_not_le, le_of_lt}
use Rattle.fraction.proofs.Certificate.{quote}
use Rattle.fraction.proofs.Certificate.{ring, le_by, within_by, up, hi, lo, num, eqn, ◌⊞◌, ◌⊠◌, ◌·◌, ◌&◌}
use Rattle.fraction.proofs.Inverse.{mul_inv, inv_nn, mul_cancel, quotient_error}
use Rattle.fraction.proofs.Order.{nat_le, nat_lt}
use Rattle.fraction.proofs.Size.{Size, size_pos, size_nat, size_mul, size_wider}
use Rattle.fraction.proofs.Within.{within_nn, within_self, within_weaken, within_resp, within_neg, within_add, within_mul, product_error}
use Rattle.binary64.specs.Operators as Op
use Rattle.binary64.proofs.Bounds.{Scaled}
use Rattle.binary64.specs.Error.{u, u_nn}
use Rattle.binary64.proofs.Error.{rounding_error}
use Rattle.binary64.proofs.OrderLaws.{positive_num}
use Rattle.binary64.proofs.Rounds.{Rounds, add_rounds, sub_rounds, mul_rounds, div_rounds}
use Rattle.binary64.specs.Sign.{neg_finite}
use Rattle.binary64.specs.Value.{val, int_finite}
use Rattle.binary64.proofs.Value.{val_neg, int_val}

-- scales from 2 ^ -1000 to 2 ^ 900
abbrev pub Fair : Fraction → Type 0
Fair κ = Size κ 1000 900

pub record Near (x : Float) (q κ : Fraction) (k b : ℕ) : Type 0 where
  pub fine : T (finite x)
  pub error : val x -F q within κ *F (nat k *F u)
  pub size : q within κ *F nat b
  pub scale : Fair κ
  pub few : k + b ≤ 2 ^ 20

fair_nn : {κ : Fraction} → Fair κ → nat 0 ≤F κ
fair_nn h = le_of_lt (size_pos h)

count_le : {x : Float} {q κ : Fraction} {k b : ℕ} → Near x q κ k b → k ≤ 2 ^ 20
count_le h = let l = h.few in omega arith

-- ---- natural numbers as fractions
-- (2 b + 1) / 2
abbrev half_more : ℕ → Fraction
half_more b = frac (pos (2 * b + 1)) 2 tt

half_more_is : (b : ℕ) → half_more b *F nat 2 ≈F nat 2 *F nat b +F nat 1
unfolding whole ◌*F◌ ◌+F◌
half_more_is b = record { cross = ap pos (omega arith) }

half_more_size : (b : ℕ) → b ≤ 2 ^ 20 → Size (half_more b) 1 21
unfolding whole ◌*F◌
half_more_size b h = record { low = record { cross = pos-≤ (omega arith) }; high = record { cross = pos-≤ (omega arith) } }

-- n / 2 ^ 53 is at most 1
small : (n : ℕ) → n ≤ 2 ^ 53 → nat n *F u ≤F nat 1
unfolding whole ◌*F◌ u
small n h = record { cross = pos-≤ (omega arith) }

products : (k l : ℕ) → k ≤ 2 ^ 20 → l ≤ 2 ^ 20 → 4 * (k * l) ≤ 2 ^ 53
products k l h g = let p : k * l ≤ 2 ^ 40 = mul-le-mul h g in omega arith

-- ---- one rounding on top of an error E that is there already, of at most k + 1/2
module _ (Q q κ E : Fraction) (k b : ℕ) (f : Fair κ) (e : Q -F q within E) (E-le : nat 2 *F E ≤F κ *F ((nat 2 *F nat k +F nat 1) *F u)) (s : q within κ *F nat b) (n : k + b + 1 + b ≤ 2 ^ 20) where
  abbrev B : Fraction
  B = half_more b

  in-A : Q within κ *F B
  in-A =
      let c = fair_nn f ⊠ up (small (2 * k + 1) (omega arith)) in
      within_by (Q ∷ q ∷ κ ∷ E ∷ nat k ∷ nat b ∷ u ∷ B ∷ []) 1
      (num 2 ⊠ hi e ⊞ up E-le ⊞ num 2 ⊠ hi s ⊞ c ⊞ eqn (neg_f κ · half_more_is b))
      (num 2 ⊠ lo e ⊞ up E-le ⊞ num 2 ⊠ lo s ⊞ c ⊞ eqn (neg_f κ · half_more_is b)) (search quote depth 24) tt tt

  pub rounds_near : (r : Float) → Rounds Q r → Near r q κ (k + b + 1) b
  rounds_near r h =
      let c = rounding_error h in-A (size_wider 1022 1023 (size_mul f (half_more_size b (omega arith))) (lit≤ tt) (lit≤ tt)) in
      record {
        fine = c.fine;
        error = within_by (Q ∷ q ∷ κ ∷ E ∷ nat k ∷ nat b ∷ u ∷ B ∷ val r ∷ []) 1
            (num 2 ⊠ hi e ⊞ up E-le ⊞ num 2 ⊠ hi c.near ⊞ eqn (κ *F u · half_more_is b))
            (num 2 ⊠ lo e ⊞ up E-le ⊞ num 2 ⊠ lo c.near ⊞ eqn (κ *F u · half_more_is b)) (search quote depth 24) tt tt;
        size = s;
        scale = f;
        few = n;
      }

-- ---- what is exact, an equal target, another scale
pub exact : {x : Float} {q κ : Fraction} → T (finite x) → val x ≈F q → Fair κ → (b : ℕ) → q within κ *F nat b → T (leb b (2 ^ 20)) → Near x q κ 0 b
exact {x} {q} {κ} p e f b s t = record {
  fine = p;
  error = within_by (val x ∷ q ∷ κ ∷ u ∷ []) 0 (eqn (nat 1 · e)) (eqn (neg_f (nat 1) · e)) (search quote depth 24) tt tt;
  size = s;
  scale = f;
  few = let l = leb→le b (2 ^ 20) t in omega arith;
}

pub fair : {κ : Fraction} {e f : ℕ} → Size κ e f → T (leb e 1000) → T (leb f 900) → Fair κ
fair {κ} {e} {f} h s t = size_wider 1000 900 h (leb→le e 1000 s) (leb→le f 900 t)

-- a float above 0 and a whole number, each at its own scale
own : {x : Float} {q : Fraction} → T (finite x) → val x ≈F q → Fair q → Near x q q 0 1
own {x} {q} p e f = exact p e f 1 (within_weaken (within_self (fair_nn f)) (≤F-of-≈F (ring (q ∷ []) (search quote depth 24) tt))) tt

pub near_own : {x : Float} {e f : ℕ} → Scaled x e f → T (leb e 1000) → T (leb f 900) → Near x (val x) (val x) 0 1
near_own h s t = own h.fine ≈F-refl (fair h.size s t)

pub near_count : (n : ℕ) → 1 ≤ n → n ≤ 2 ^ 53 → Near (Op.count n) (nat n) (nat n) 0 1
near_count n h l = own (int_finite (pos n) l) (int_val (pos n) l) (fair (size_nat n 53 h l) tt tt)

pub near_resp : {x : Float} {q r κ : Fraction} {k b : ℕ} → q ≈F r → Near x q κ k b → Near x r κ k b
near_resp {x} {q} {r} {κ} {k} {b} e h = record {
  fine = h.fine;
  error = within_by (val x ∷ q ∷ r ∷ (κ *F (nat k *F u)) ∷ []) 0 (hi h.error ⊞ eqn (nat 1 · e)) (lo h.error ⊞ eqn (neg_f (nat 1) · e)) (search quote depth 24) tt tt;
  size = within_resp e h.size;
  scale = h.scale;
  few = h.few;
}

pub near_neg : {x : Float} {q κ : Fraction} {k b : ℕ} → Near x q κ k b → Near (neg x) (neg_f q) κ k b
near_neg {x} {q} {κ} {k} {b} h = record {
  fine = rw (neg_finite x) h.fine;
  error = within_by (val x ∷ val (neg x) ∷ q ∷ (κ *F (nat k *F u)) ∷ []) 0 (lo h.error ⊞ eqn (nat 1 · val_neg x)) (hi h.error ⊞ eqn (neg_f (nat 1) · val_neg x)) (search quote depth 24) tt tt;
  size = within_neg h.size;
  scale = h.scale;
  few = h.few;
}

-- κ · m ≤ μ · n: a count k becomes k' where k · n ≤ m · k'
module _ (κ μ : Fraction) (m n : ℕ) (M : 0 < m) (c : κ *F nat m ≤F μ *F nat n) (κ-nn : nat 0 ≤F κ) (μ-nn : nat 0 ≤F μ) where
  carried : (k k' : ℕ) → k * n ≤ m * k' → κ *F nat k ≤F μ *F nat k'
  carried k k' h = mul_cancel (κ *F nat k) (μ *F nat k') (nat_lt 0 m M)
      (le_by (κ ∷ μ ∷ nat m ∷ nat n ∷ nat k ∷ nat k' ∷ []) 0 (up c ⊠ nn-nat_f k ⊞ μ-nn ⊠ up (nat_le (k * n) (m * k') h)) (search quote depth 24) tt)

pub rescale : {x : Float} {q κ μ : Fraction} {k b : ℕ} → Near x q κ k b → (m n k' b' : ℕ) → κ *F nat m ≤F μ *F nat n → Fair μ → T (ltb 0 m) → T (leb (k * n) (m * k')) → T (leb (b * n) (m * b')) → T (leb (k' + b') (2 ^ 20)) → Near x q μ k' b'
rescale {x} {q} {κ} {μ} {k} {b} h m n k' b' c f p s t z =
    let grow = carried κ μ m n (ltb→lt 0 m p) c (fair_nn h.scale) (fair_nn f) in
    record {
      fine = h.fine;
      error = within_weaken h.error (le_by (κ ∷ μ ∷ nat k ∷ nat k' ∷ u ∷ []) 0 (up (grow k k' (leb→le (k * n) (m * k') s)) ⊠ u_nn) (search quote depth 24) tt);
      size = within_weaken h.size (grow b b' (leb→le (b * n) (m * b') t));
      scale = f;
      few = leb→le (k' + b') (2 ^ 20) z;
    }

-- ---- sums and differences
module _ (κ : Fraction) (k l : ℕ) (f : Fair κ) where
  sum_error : nat 2 *F (κ *F (nat k *F u) +F κ *F (nat l *F u)) ≤F κ *F ((nat 2 *F nat (k + l) +F nat 1) *F u)
  sum_error = le_by (κ ∷ nat k ∷ nat l ∷ u ∷ []) 0 (fair_nn f ⊠ u_nn) (search quote depth 24) tt

  -- what is rounded is s, with the errors of both operands
  sum_near : {z : Float} {Q s : Fraction} → Q -F s within κ *F (nat k *F u) +F κ *F (nat l *F u) → Rounds Q z → (a : ℕ) → s within κ *F nat a → T (leb (k + l + a + 1 + a) (2 ^ 20)) → Near z s κ (k + l + a + 1) a
  sum_near {z} {Q} {s} e h a w t = rounds_near Q s κ (κ *F (nat k *F u) +F κ *F (nat l *F u)) (k + l) a f e sum_error w (leb→le (k + l + a + 1 + a) (2 ^ 20) t) z h

pub near_add : {x y : Float} {q r κ : Fraction} {k b l c : ℕ} → Near x q κ k b → Near y r κ l c → (a : ℕ) → q +F r within κ *F nat a → T (leb (k + l + a + 1 + a) (2 ^ 20)) → Near (Op.◌⊕◌ x y) (q +F r) κ (k + l + a + 1) a
near_add {x} {y} {q} {r} {κ} {k} {b} {l} {c} h g =
    sum_near κ k l h.scale (within_resp (ring (val x ∷ val y ∷ q ∷ r ∷ []) (search quote depth 24) tt) (within_add h.error g.error)) (add_rounds x y h.fine g.fine)

pub near_sub : {x y : Float} {q r κ : Fraction} {k b l c : ℕ} → Near x q κ k b → Near y r κ l c → (a : ℕ) → q -F r within κ *F nat a → T (leb (k + l + a + 1 + a) (2 ^ 20)) → Near (Op.◌⊖◌ x y) (q -F r) κ (k + l + a + 1) a
near_sub {x} {y} {q} {r} {κ} {k} {b} {l} {c} h g =
    sum_near κ k l h.scale (within_resp (ring (val x ∷ val y ∷ q ∷ r ∷ []) (search quote depth 24) tt) (within_add h.error (within_neg g.error))) (sub_rounds x y h.fine g.fine)

-- ---- products
module _ (κ μ : Fraction) (k l b c : ℕ) (f : Fair κ) (g : Fair μ) (h : k ≤ 2 ^ 20) (h' : l ≤ 2 ^ 20) where
  mul_error : nat 2 *F ((κ *F nat b) *F (μ *F (nat l *F u)) +F (μ *F nat c) *F (κ *F (nat k *F u)) +F (κ *F (nat k *F u)) *F (μ *F (nat l *F u))) ≤F (κ *F μ) *F ((nat 2 *F nat (k * c + l * b) +F nat 1) *F u)
  mul_error =
      let n : 2 * (k * l) ≤ 2 ^ 53 = omega (arith, products k l h h') in
      le_by (κ ∷ μ ∷ nat k ∷ nat l ∷ nat b ∷ nat c ∷ u ∷ []) 0 (fair_nn f ⊠ fair_nn g ⊠ u_nn ⊠ up (small (2 * (k * l)) n)) (search quote depth 24) tt

pub near_mul : {x y : Float} {q r κ μ : Fraction} {k b l c : ℕ} → Near x q κ k b → Near y r μ l c → Fair (κ *F μ) → T (leb (k * c + l * b + b * c + 1 + b * c) (2 ^ 20)) → Near (Op.◌⊗◌ x y) (q *F r) (κ *F μ) (k * c + l * b + b * c + 1) (b * c)
near_mul {x} {y} {q} {r} {κ} {μ} {k} {b} {l} {c} h g f t =
    rounds_near (val x *F val y) (q *F r) (κ *F μ) ((κ *F nat b) *F (μ *F (nat l *F u)) +F (μ *F nat c) *F (κ *F (nat k *F u)) +F (κ *F (nat k *F u)) *F (μ *F (nat l *F u))) (k * c + l * b) (b * c) f
    (product_error (val x) (val y) q r h.error g.error h.size g.size) (mul_error κ μ k l b c h.scale g.scale (count_le h) (count_le g))
    (as_one (within_mul h.size g.size)) (leb→le (k * c + l * b + b * c + 1 + b * c) (2 ^ 20) t) (Op.◌⊗◌ x y) (mul_rounds x y h.fine g.fine)
  where
    as_one : q *F r within (κ *F nat b) *F (μ *F nat c) → q *F r within (κ *F μ) *F nat (b * c)
    as_one w = within_weaken w (≤F-of-≈F (ring (κ ∷ μ ∷ nat b ∷ nat c ∷ []) (search quote depth 24) tt))

-- a factor x that is exact and may be tiny, |x| ≤ X: X · μ · m ≤ κ, and the product keeps the scale κ
module _ (X κ μ : Fraction) (m : ℕ) (X-nn : nat 0 ≤F X) (f : Fair μ) (w : X *F μ *F nat m ≤F κ) where
  factor_error : (l k0 : ℕ) → 2 * l ≤ m * (2 * k0 + 1) → nat 2 *F (X *F (μ *F (nat l *F u))) ≤F κ *F ((nat 2 *F nat k0 +F nat 1) *F u)
  factor_error l k0 h = le_by (X ∷ κ ∷ μ ∷ nat m ∷ nat l ∷ nat k0 ∷ u ∷ []) 0 (up w ⊠ (num 2 ⊠ nn-nat_f k0 ⊞ num 1) ⊠ u_nn ⊞ X-nn ⊠ fair_nn f ⊠ u_nn ⊠ up (nat_le (2 * l) (m * (2 * k0 + 1)) h)) (search quote depth 24) tt

  factor_size : (c b' : ℕ) → c * 1 ≤ m * b' → X *F (μ *F nat c) ≤F κ *F nat b'
  factor_size c b' h = le_by (X ∷ κ ∷ μ ∷ nat m ∷ nat c ∷ nat b' ∷ []) 0 (up w ⊠ nn-nat_f b' ⊞ X-nn ⊠ fair_nn f ⊠ up (nat_le (c * 1) (m * b') h)) (search quote depth 24) tt

pub near_factor : (x : Float) {y z : Float} {X r κ μ : Fraction} {l c : ℕ} → Rounds (val x *F val y) z → val x within X → Near y r μ l c → Fair κ → (m k0 b : ℕ) → X *F μ *F nat m ≤F κ
    → T (leb (2 * l) (m * (2 * k0 + 1))) → T (leb (c * 1) (m * b)) → T (leb (k0 + b + 1 + b) (2 ^ 20)) → Near z (val x *F r) κ (k0 + b + 1) b
near_factor x {y} {z} {X} {r} {κ} {μ} {l} {c} h p g f m k0 b w s t n =
    rounds_near (val x *F val y) (val x *F r) κ (X *F (μ *F (nat l *F u))) k0 b f
    (within_resp (ring (val x ∷ val y ∷ r ∷ []) (search quote depth 24) tt) (within_mul p g.error))
    (factor_error X κ μ m (within_nn p) g.scale w l k0 (leb→le (2 * l) (m * (2 * k0 + 1)) s))
    (within_weaken (within_mul p g.size) (factor_size X κ μ m (within_nn p) g.scale w c b (leb→le (c * 1) (m * b) t)))
    (leb→le (k0 + b + 1 + b) (2 ^ 20) n) z h

-- ---- quotients: the divisor's own size is its scale
module _ (Y μ : Fraction) (l : ℕ) (p : nat 0 <F μ) (e : Y -F μ within μ *F (nat l *F u)) (h : l ≤ 2 ^ 20) where
  divisor_pos : nat 0 <F Y
  divisor_pos = lt_of_not_le (λ (n : Y ≤F nat 0). lt_not_le p
      (le_by (Y ∷ μ ∷ nat l ∷ u ∷ []) 0 (num 2 ⊠ lo e ⊞ num 2 ⊠ up n ⊞ le_of_lt p ⊠ up (small (2 * l) (omega arith))) (search quote depth 24) tt))

  abbrev I : Fraction
  I = inv μ *F (nat 1 +F nat 2 *F (nat l *F u))

  inverse_le : inv Y ≤F I
  inverse_le = le_by (Y ∷ μ ∷ inv Y ∷ inv μ ∷ nat l ∷ u ∷ []) 0
      (inv_nn p ⊠ inv_nn divisor_pos ⊠ (lo e ⊠ (num 1 ⊞ num 2 ⊠ (nn-nat_f l ⊠ u_nn)) ⊞ le_of_lt p ⊠ (nn-nat_f l ⊠ u_nn) ⊠ up (small (2 * l) (omega arith)))
      ⊞ eqn (I · mul_inv divisor_pos & neg_f (inv Y) · mul_inv p)) (search quote depth 24) tt

  div_error : (κ : Fraction) (k b : ℕ) → nat 0 ≤F κ → k + b * l ≤ 2 ^ 20
      → nat 2 *F (I *F (κ *F (nat k *F u) +F (κ *F nat b *F inv μ) *F (μ *F (nat l *F u)))) ≤F (κ /F μ) *F ((nat 2 *F nat (k + b * l) +F nat 1) *F u)
  div_error κ k b f n = le_by (μ ∷ inv μ ∷ κ ∷ nat k ∷ nat b ∷ nat l ∷ u ∷ []) 0
      (f ⊠ inv_nn p ⊠ u_nn ⊠ up (small (4 * (l * (k + b * l))) (products l (k + b * l) h n)) ⊞ eqn (nat 2 *F I *F κ *F nat b *F (nat l *F u) · mul_inv p)) (search quote depth 24) tt

pub near_div : {x y : Float} {q κ μ : Fraction} {k b l : ℕ} → Near x q κ k b → Near y μ μ l 1 → Fair (κ /F μ) → T (leb (k + b * l + b + 1 + b) (2 ^ 20)) → Near (Op.◌⊘◌ x y) (q /F μ) (κ /F μ) (k + b * l + b + 1) b
near_div {x} {y} {q} {κ} {μ} {k} {b} {l} h g f t =
    let p : nat 0 <F μ = size_pos g.scale in
    let l' : l ≤ 2 ^ 20 = count_le g in
    let n : k + b * l + b + 1 + b ≤ 2 ^ 20 = leb→le (k + b * l + b + 1 + b) (2 ^ 20) t in
    let p' : nat 0 <F val y = divisor_pos (val y) μ l p g.error l' in
    let size : q /F μ within κ *F nat b *F inv μ = within_mul h.size (within_self (inv_nn p)) in
    rounds_near (val x /F val y) (q /F μ) (κ /F μ) (I (val y) μ l p g.error l' *F (κ *F (nat k *F u) +F (κ *F nat b *F inv μ) *F (μ *F (nat l *F u)))) (k + b * l) b f
    (quotient_error (val x) q p' p h.error g.error (within_weaken (within_self (inv_nn p')) (inverse_le (val y) μ l p g.error l')) size)
    (div_error (val y) μ l p g.error l' κ k b (fair_nn h.scale) (omega arith))
    (within_weaken size (≤F-of-≈F (ring (κ ∷ nat b ∷ inv μ ∷ []) (search quote depth 24) tt)))
    n (Op.◌⊘◌ x y) (div_rounds x y h.fine g.fine (positive_num y p'))
