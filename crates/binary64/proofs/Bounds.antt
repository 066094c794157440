-- Bounds on values that rounding keeps: a power of 2 on either side, and a float that binary64 holds. And the ranges of `Range` as bounds on the value. Assumes nothing.
use Rattle.std.specs.Prelude.{◌≡◌, refl, [], ◌∷◌, ℕ, zero, suc, ◌+◌, ◌*◌, ◌^◌, ◌≤◌, ◌<◌, Bool, false, T, leb, ltb, pos, negsuc, Float}
use Rattle.std.proofs.Common.{sym, ap, subst, le_trans, le_of_eq, mul-one, one-mul, lt_of_lt_of_le, mul-le-mul_left, arith, lit<, leb→le, le→leb, lt→ltb, pow_pos, pow_mono}
use Rattle.std.proofs.Math.Pow.{pow-lt}
use Rattle.std.specs.Float.{fin, binary64}
use Rattle.std.specs.Float.Ieee.{neg, fits}
use Rattle.std.specs.Float.Ieee.Fits.{and_i, neg-fits}
use Rattle.std.specs.Float.Ieee.Positive.{num, den, den_pos, through}
use Rattle.std.specs.Float.Ieee.Scale.{finite}
use Rattle.fraction.specs.Integer.{pos-≤, ≤-pos}
use Rattle.fraction.specs.Fraction.{Fraction, whole, nat, pow2, neg_f, ◌*F◌, ◌≈F◌, ◌within◌}
use Rattle.fraction.proofs.Field.{nn-nat_f, ≈F-sym, ≤F-of-≈F, ≤F-trans}
use Rattle.fraction.proofs.Certificate.{quote}
use Rattle.fraction.proofs.Certificate.{le_by, up as gap, eqn, ◌⊞◌, ◌⊠◌, ◌·◌}
use Rattle.fraction.proofs.Inverse.{mul_cancel}
use Rattle.fraction.proofs.Order.{pow2_pos, pow2_add}
use Rattle.fraction.proofs.Size.{Size}
use Rattle.fraction.proofs.Within.{within_weaken, within_self, within_mul}
use Rattle.binary64.specs.Operators.{◌⊗◌, negative}
use Rattle.binary64.proofs.OrderLaws.{stays}
use Rattle.binary64.specs.Range.{Most, Within, Sized}
use Rattle.binary64.proofs.Rounds.{Rounds, mul_rounds}
use Rattle.binary64.specs.Sign.{neg_finite}
use Rattle.binary64.specs.Value.{ratio, val, val_is, ratio_le, ratio_nn, ratio_same, signed_within, signed_size}
use Rattle.binary64.proofs.Value.{val_neg}

-- r is finite, and |r| ≤ B
pub record Bounded (r : Float) (B : Fraction) : Type 0 where
  pub fine : T (finite r)
  pub size : val r within B

-- ---- by a float
pub rounds_bounded : {Q : Fraction} {r : Float} (h : Float) → Rounds Q r → T (finite h) → T (fits binary64 h) → Q within val h → Bounded r (val h)
rounds_bounded {Q} {r} h g p t w =
    let k = stays (neg h) h g (subst (λ (b : Bool). T b) (sym (neg_finite h)) p) p (neg-fits binary64 h t) t (≤F-trans (≤F-of-≈F (val_neg h)) w.lo) w.hi in
    record { fine = k.fine; size = record { lo = ≤F-trans (≤F-of-≈F (≈F-sym (val_neg h))) k.above; hi = k.below } }

-- ---- by powers of 2
-- 2 ^ f and 2 ^ -e
abbrev high : ℕ → Float
high f = fin false 1 (pos f)

abbrev low : ℕ → Float
low zero = fin false 1 (pos 0)
low (suc e) = fin false 1 (negsuc e)

high_val : (f : ℕ) → val (high f) ≈F pow2 f
unfolding val whole
high_val f = ratio_same (ap (λ (k : ℕ). k * 1) (one-mul (2 ^ f)))

low_val : (e : ℕ) → val (low e) *F pow2 e ≈F nat 1
unfolding val whole ◌*F◌
low_val zero = record { cross = refl }
low_val (suc e) = record { cross = ap pos (unit (2 ^ suc e)) }
  where
    unit : (p : ℕ) → 1 * 1 * p * 1 ≡ 1 * (p * 1)
    unit p = omega arith

high_fits : (f : ℕ) → f ≤ 1023 → T (fits binary64 (high f))
unfolding fits
high_fits f h = lt→ltb (1 * 2 ^ f) (2 ^ 1024 * 1) (lt_of_lt_of_le (pow_double f) (pow_mono (more f h)))
  where
    pow_double : (f : ℕ) → 1 * 2 ^ f < 2 ^ suc f
    pow_double f = subst (λ (k : ℕ). k < 2 ^ suc f) (sym (one-mul (2 ^ f))) (pow-lt (omega arith))

    more : (f : ℕ) → f ≤ 1023 → suc f ≤ 1024
    more f h = omega arith

low_fits : (e : ℕ) → e ≤ 1074 → T (fits binary64 (low e))
unfolding fits
low_fits zero h = tt
low_fits (suc e) h = and_i (leb (2 ^ suc e) (2 ^ 1074)) (ltb (1 * 1) (2 ^ 1024 * 2 ^ suc e)) (le→leb (2 ^ suc e) (2 ^ 1074) (pow_mono h)) (lt→ltb (1 * 1) (2 ^ 1024 * 2 ^ suc e) (above (2 ^ 1024) (2 ^ suc e) (lit< tt) (pow_pos (suc e))))
  where
    above : (P p : ℕ) → 1 * 1 < P → 0 < p → 1 * 1 < P * p
    above P p h k = lt_of_lt_of_le h (le_trans (le_of_eq (sym (mul-one P))) (mul-le-mul_left P k))

pub bounded_pow : {Q : Fraction} {r : Float} (f : ℕ) → Rounds Q r → Q within pow2 f → f ≤ 1023 → Bounded r (pow2 f)
bounded_pow f h w l =
    let b = rounds_bounded (high f) h tt (high_fits f l) (within_weaken w (≤F-of-≈F (≈F-sym (high_val f)))) in
    record { fine = b.fine; size = within_weaken b.size (≤F-of-≈F (high_val f)) }

-- r is finite, and from 2 ^ -e to 2 ^ f
pub record Scaled (r : Float) (e f : ℕ) : Type 0 where
  pub fine : T (finite r)
  pub size : Size (val r) e f

pub rounds_scaled : {Q : Fraction} {r : Float} {e f : ℕ} → Rounds Q r → Size Q e f → e ≤ 1074 → f ≤ 1023 → Scaled r e f
rounds_scaled {Q} {r} {e} {f} h s l m =
    let k = stays (low e) (high f) h (low_finite e) tt (low_fits e l) (high_fits f m) (mul_cancel (val (low e)) Q (pow2_pos e) (≤F-trans (≤F-of-≈F (low_val e)) s.low)) (≤F-trans s.high (≤F-of-≈F (≈F-sym (high_val f)))) in
    record {
      fine = k.fine;
      size = record {
        low = le_by (val (low e) ∷ val r ∷ pow2 e ∷ []) 0 (gap k.above ⊠ nn-nat_f (2 ^ e) ⊞ eqn (neg_f (nat 1) · low_val e)) (search quote depth 24) tt;
        high = ≤F-trans k.below (≤F-of-≈F (high_val f));
      };
    }
  where
    low_finite : (e : ℕ) → T (finite (low e))
    low_finite zero = tt
    low_finite (suc e) = tt

-- ---- products and quotients
pub bounded_mul : {x y : Float} (f g : ℕ) → Bounded x (pow2 f) → Bounded y (pow2 g) → T (leb (f + g) 1023) → Bounded (x ⊗ y) (pow2 (f + g))
bounded_mul {x} {y} f g h k l = bounded_pow (f + g) (mul_rounds x y h.fine k.fine) (within_weaken (within_mul h.size k.size) (≤F-of-≈F (≈F-sym (pow2_add f g)))) (leb→le (f + g) 1023 l)

-- ---- the ranges of `Range`
pub most_bounded : {x : Float} {s : Bool} {A C : ℕ} (h : Most x s A C) → Bounded x (ratio A C h.over)
most_bounded {x} {s} {A} {C} h = record {
  fine = h.fine;
  size = rw (val_is x h.fine) (signed_within (negative x) (within_weaken (within_self (ratio_nn (num x) (den x) (den_pos x))) (ratio_le h.most)));
}

pub bounded_most : {x : Float} {A C : ℕ} {P : 0 < C} → Bounded x (ratio A C P) → Sized x A C
bounded_most {x} {A} {C} {P} h = record {
  over = P;
  fine = h.fine;
  sign = refl;
  most = ≤-pos (signed_size (negative x) (ratio (num x) (den x) (den_pos x)) (ratio A C P) (rw (val_is x h.fine) at h.size)).cross;
}

pub within_scaled : {x : Float} {A C B E : ℕ} → Within x A C B E → (e f : ℕ) → T (leb E (B * 2 ^ e)) → T (leb A (2 ^ f * C)) → Scaled x e f
unfolding whole ◌*F◌
within_scaled {x} {A} {C} {B} {E} h e f l m =
    let lo : 1 * den x ≤ num x * 2 ^ e = through 1 B (num x) (2 ^ e) E (den x) h.1.over (le_trans (le_of_eq (one-mul E)) (leb→le E (B * 2 ^ e) l)) h.1.least in
    let hi : num x * 1 ≤ 2 ^ f * den x = through (num x) A (2 ^ f) (den x) C 1 h.0.over h.0.most (le_trans (le_of_eq (mul-one A)) (leb→le A (2 ^ f * C) m)) in
    record { fine = h.0.fine; size = rw (val_is x h.0.fine, h.0.sign) (record { low = record { cross = simp mul-one (pos-≤ lo) }; high = record { cross = pos-≤ hi } }) }
