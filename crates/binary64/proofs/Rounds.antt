-- `Rounds Q r`: r is the fraction Q rounded to binary64. Each operation on finite floats rounds its exact result once. Assumes nothing.
use Rattle.std.specs.Prelude.{◌≡◌, refl, [], ◌∷◌, ℕ, zero, suc, ◌+◌, ◌*◌, ◌<◌, Bool, true, false, T, pos, Float}
use Rattle.std.proofs.Common.{sym, ap, subst, mul-pos, mul_comm, mul_assoc, mul_left_comm, add-mul, zero-mul, lt_irrefl}
use Rattle.std.specs.Float.{binary64}
use Rattle.std.specs.Float.Ieee.{unlike, round, neg, fits}
use Rattle.std.specs.Float.Ieee.Positive.{num, den, den_pos}
use Rattle.std.specs.Float.Ieee.Scale.{finite}
use Rattle.fraction.specs.Fraction.{Fraction, whole, nat, ◌+F◌, neg_f, ◌-F◌, ◌*F◌, ◌/F◌, inv, turned, ◌≈F◌}
use Rattle.fraction.proofs.Field.{≈F-refl, ≈F-sym, ≈F-trans, +F-cong, *F-cong}
use Rattle.fraction.proofs.Certificate.{quote}
use Rattle.fraction.proofs.Certificate.{eq_by, ◌·◌, ◌&◌}
use Rattle.binary64.specs.Operators.{◌⊕◌, ◌⊖◌, ◌⊗◌, ◌⊘◌, negative}
use Rattle.binary64.specs.Representable.{own_round}
use Rattle.binary64.specs.Opened.{mul_is, div_is, sub_is, plus, minus, add_summed}
use Rattle.binary64.specs.Sign.{neg_finite}
use Rattle.binary64.specs.Value.{ratio, signed, val, val_is, ratio_same, signed_cong}
use Rattle.binary64.proofs.Value.{val_neg}

-- Q is ±top / bottom, and r is what `round` makes of that
pub record Rounds (Q : Fraction) (r : Float) : Type 0 where
  pub sign : Bool
  pub top : ℕ
  pub bottom : ℕ
  pub above : 0 < bottom
  pub is : r ≡ round binary64 sign top bottom
  pub same : signed sign (ratio top bottom above) ≈F Q

pub rounds_resp : {Q Q' : Fraction} {r : Float} → Q ≈F Q' → Rounds Q r → Rounds Q' r
rounds_resp e h = record { sign = h.sign; top = h.top; bottom = h.bottom; above = h.above; is = h.is; same = ≈F-trans h.same e }

-- ---- products and quotients of ±a / c and ±b / d
ratio_mul : (a c b d : ℕ) (C : 0 < c) (D : 0 < d) → ratio (a * b) (c * d) (mul-pos C D) ≈F ratio a c C *F ratio b d D
unfolding ◌*F◌
ratio_mul a c b d C D = ≈F-refl

signed_mul : (s t : Bool) (x y z : Fraction) → z ≈F x *F y → signed (unlike s t) z ≈F signed s x *F signed t y
signed_mul false false x y z e = e
signed_mul false true x y z e = eq_by (x ∷ y ∷ z ∷ []) (neg_f (nat 1) · e) (search quote depth 24) tt
signed_mul true false x y z e = eq_by (x ∷ y ∷ z ∷ []) (neg_f (nat 1) · e) (search quote depth 24) tt
signed_mul true true x y z e = eq_by (x ∷ y ∷ z ∷ []) (nat 1 · e) (search quote depth 24) tt

signed_inv : (t : Bool) (b d : ℕ) (B : 0 < b) (D : 0 < d) → signed t (ratio d b B) ≈F inv (signed t (ratio b d D))
unfolding inv turned neg_f
signed_inv t zero d B D = absurd (lt_irrefl 0 B)
signed_inv false (suc n) d B D = record { cross = refl }
signed_inv true (suc n) d B D = record { cross = refl }

-- ---- sums over one denominator
ratio_add : (x y r : ℕ) (R : 0 < r) → ratio (x + y) r R ≈F ratio x r R +F ratio y r R
unfolding ◌+F◌
ratio_add x y r R = record { cross = ap pos (simp (add-mul, mul_assoc)) }

ratio_zero : (r : ℕ) (R : 0 < r) → ratio 0 r R ≈F nat 0
unfolding whole
ratio_zero r R = ratio_same (simp zero-mul)

split : (s : Bool) (p r : ℕ) (R : 0 < r) → signed s (ratio p r R) ≈F ratio (plus s p) r R -F ratio (minus s p) r R
split false p r R = eq_by (ratio p r R ∷ ratio 0 r R ∷ []) (nat 1 · ratio_zero r R) (search quote depth 24) tt
split true p r R = eq_by (ratio p r R ∷ ratio 0 r R ∷ []) (neg_f (nat 1) · ratio_zero r R) (search quote depth 24) tt

module _ (s t σ : Bool) (p q n r : ℕ) (R : 0 < r) (e : plus s p + plus t q + minus σ n ≡ minus s p + minus t q + plus σ n) where
  abbrev X : ℕ → Fraction
  X k = ratio k r R

  three : (a b c : ℕ) → X (a + b + c) ≈F X a +F X b +F X c
  three a b c = ≈F-trans (ratio_add (a + b) c r R) (+F-cong (ratio_add a b r R) ≈F-refl)

  level : X (plus s p) +F X (plus t q) +F X (minus σ n) ≈F X (minus s p) +F X (minus t q) +F X (plus σ n)
  level = ≈F-trans (≈F-sym (three (plus s p) (plus t q) (minus σ n))) (subst (λ (k : ℕ). X k ≈F X (minus s p) +F X (minus t q) +F X (plus σ n)) (sym e) (three (minus s p) (minus t q) (plus σ n)))

  signed_sum : signed σ (X n) ≈F signed s (X p) +F signed t (X q)
  signed_sum = eq_by (signed σ (X n) ∷ signed s (X p) ∷ signed t (X q) ∷ X (plus s p) ∷ X (plus t q) ∷ X (minus σ n) ∷ X (minus s p) ∷ X (minus t q) ∷ X (plus σ n) ∷ [])
      (neg_f (nat 1) · split s p r R & neg_f (nat 1) · split t q r R & nat 1 · split σ n r R & neg_f (nat 1) · level) (search quote depth 24) tt

-- ---- the operations
module _ (x y : Float) (p : T (finite x)) (q : T (finite y)) where
  pub add_rounds : Rounds (val x +F val y) (x ⊕ y)
  add_rounds =
      let w = add_summed binary64 x y p q in
      let R = mul-pos (den_pos x) (den_pos y) in
      record {
        sign = w.sign;
        top = w.size;
        bottom = den x * den y;
        above = R;
        is = w.is;
        same = rw (val_is x p, val_is y q)
            (≈F-trans (signed_sum (negative x) (negative y) w.sign (num x * den y) (num y * den x) w.size (den x * den y) R w.adds)
            (+F-cong (signed_cong (negative x) (ratio_same (simp (mul_assoc, mul_comm, mul_left_comm)))) (signed_cong (negative y) (ratio_same (simp (mul_assoc, mul_comm, mul_left_comm))))));
      }

  pub mul_rounds : Rounds (val x *F val y) (x ⊗ y)
  mul_rounds = record {
    sign = unlike (negative x) (negative y);
    top = num x * num y;
    bottom = den x * den y;
    above = mul-pos (den_pos x) (den_pos y);
    is = mul_is binary64 x y p q;
    same = rw (val_is x p, val_is y q) (signed_mul (negative x) (negative y) (ratio (num x) (den x) (den_pos x)) (ratio (num y) (den y) (den_pos y)) (ratio (num x * num y) (den x * den y) (mul-pos (den_pos x) (den_pos y))) (ratio_mul (num x) (den x) (num y) (den y) (den_pos x) (den_pos y)));
  }

  -- by a divisor that is not 0
  pub div_rounds : 0 < num y → Rounds (val x /F val y) (x ⊘ y)
  div_rounds B = record {
    sign = unlike (negative x) (negative y);
    top = num x * den y;
    bottom = num y * den x;
    above = mul-pos B (den_pos x);
    is = div_is binary64 x y p q B;
    same = rw (val_is x p, val_is y q)
        (≈F-trans (signed_mul (negative x) (negative y) (ratio (num x) (den x) (den_pos x)) (ratio (den y) (num y) B) (ratio (num x * den y) (num y * den x) (mul-pos B (den_pos x)))
        (≈F-trans (ratio_same (ap (λ (k : ℕ). num x * den y * k) (mul_comm (den x) (num y)))) (ratio_mul (num x) (den x) (den y) (num y) (den_pos x) B)))
        (*F-cong ≈F-refl (signed_inv (negative y) (num y) (den y) B (den_pos y))));
  }

pub sub_rounds : (x y : Float) → T (finite x) → T (finite y) → Rounds (val x -F val y) (x ⊖ y)
sub_rounds x y p q = rounds_resp (+F-cong ≈F-refl (val_neg y)) (subst (λ (z : Float). Rounds (val x +F val (neg y)) z) (sym (sub_is binary64 x y)) (add_rounds x (neg y) p (rw (neg_finite y) q)))

-- a float that the format holds is its own value rounded
pub representable : (x : Float) → T (finite x) → T (fits binary64 x) → Rounds (val x) x
representable x p t = record { sign = negative x; top = num x; bottom = den x; above = den_pos x; is = own_round binary64 x p t; same = rw (val_is x p) ≈F-refl }
