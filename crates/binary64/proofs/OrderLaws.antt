-- Rounding keeps the order of fractions, so each operation keeps it; and it never crosses a float that binary64 holds. Assumes nothing.
use Rattle.std.specs.Prelude.{refl, [], ◌∷◌, ℕ, ◌*◌, ◌<◌, Bool, true, false, T, pos, Float}
use Rattle.std.proofs.Common.{sym, ap, ◌∙◌, inl, inr, eq-zero-or-pos, zero-mul}
use Rattle.std.specs.Float.{nan, inf, fin, binary64}
use Rattle.std.specs.Float.Ieee.{le, fits}
use Rattle.std.specs.Float.Ieee.Positive.{num, den}
use Rattle.std.specs.Float.Ieee.Scale.{finite}
use Rattle.fraction.specs.Fraction.{Fraction, whole, nat, inv, ◌≈F◌, ◌≤F◌, ◌<F◌}
use Rattle.fraction.proofs.Field.{≈F-refl, ≈F-sym, ≈F-trans, ≤F-of-≈F, ≤F-trans, lt_not_le}
use Rattle.fraction.proofs.Certificate.{quote}
use Rattle.fraction.proofs.Certificate.{ring, le_by, up, ◌⊞◌, ◌⊠◌}
use Rattle.fraction.proofs.Inverse.{inv_nn, inv_anti}
use Rattle.fraction.proofs.Order.{≤F-refl, ≤F-resp, lt_le_trans}
use Rattle.binary64.specs.Operators.{◌⊕◌, ◌⊖◌, ◌⊗◌, ◌⊘◌, negative}
use Rattle.binary64.specs.Monotone.{round_below}
use Rattle.binary64.specs.Order.{between_finite}
use Rattle.binary64.proofs.Rounds.{Rounds, representable, add_rounds, sub_rounds, mul_rounds, div_rounds}
use Rattle.binary64.specs.Value.{signed, val, val_is, ratio_same, signed_cong, signed→below}
use Rattle.binary64.proofs.Value.{le_val}

-- ---- the order
pub rounds_le : {P Q : Fraction} {x y : Float} → Rounds P x → Rounds Q y → P ≤F Q → T (le x y)
rounds_le h k l =
    rw (h.is, k.is) (round_below binary64 h.sign k.sign h.top h.bottom k.top k.bottom h.above k.above
    (signed→below h.sign k.sign h.top h.bottom k.top k.bottom h.above k.above (≤F-resp (≈F-sym h.same) (≈F-sym k.same) l)))

-- ---- what the format holds is not crossed
pub record InBounds (lo r hi : Float) : Type 0 where
  pub fine : T (finite r)
  pub above : val lo ≤F val r
  pub below : val r ≤F val hi

pub stays : {Q : Fraction} {r : Float} (lo hi : Float) → Rounds Q r → T (finite lo) → T (finite hi) → T (fits binary64 lo) → T (fits binary64 hi) → val lo ≤F Q → Q ≤F val hi → InBounds lo r hi
stays {Q} {r} lo hi h p q s t a b =
    let x = rounds_le (representable lo p s) h a in
    let y = rounds_le h (representable hi q t) b in
    let f = between_finite lo r hi p q x y in
    record { fine = f; above = le_val lo r p f x; below = le_val r hi f q y }

-- one side of a finite result
pub stays_above : {Q : Fraction} {r : Float} (lo : Float) → Rounds Q r → T (finite r) → T (finite lo) → T (fits binary64 lo) → val lo ≤F Q → val lo ≤F val r
stays_above {r = r} lo h f p t l = le_val lo r p f (rounds_le (representable lo p t) h l)

pub stays_below : {Q : Fraction} {r : Float} (hi : Float) → Rounds Q r → T (finite r) → T (finite hi) → T (fits binary64 hi) → Q ≤F val hi → val r ≤F val hi
stays_below {r = r} hi h f p t l = le_val r hi f p (rounds_le h (representable hi p t) l)

-- ---- signs
abbrev +0 : Float
+0 = fin false 0 (pos 0)

zero_val : val +0 ≈F nat 0
unfolding val whole
zero_val = record { cross = refl }

zero_fits : T (fits binary64 +0)
unfolding fits
zero_fits = tt

pub rounds_nonneg : {Q : Fraction} {r : Float} → Rounds Q r → T (finite r) → nat 0 ≤F Q → nat 0 ≤F val r
rounds_nonneg h f l = ≤F-trans (≤F-of-≈F (≈F-sym zero_val)) (stays_above +0 h f tt zero_fits (≤F-trans (≤F-of-≈F zero_val) l))

pub rounds_nonpos : {Q : Fraction} {r : Float} → Rounds Q r → T (finite r) → Q ≤F nat 0 → val r ≤F nat 0
rounds_nonpos h f l = ≤F-trans (stays_below +0 h f tt zero_fits (≤F-trans l (≤F-of-≈F (≈F-sym zero_val)))) (≤F-of-≈F zero_val)

-- ---- divisors
pub positive-finite : (y : Float) → nat 0 <F val y → T (finite y)
unfolding val
positive-finite nan h = absurd (lt_not_le h ≤F-refl)
positive-finite (inf s) h = absurd (lt_not_le h ≤F-refl)
positive-finite (fin s m e) h = tt

pub not_zero : (y : Float) → T (finite y) → (val y ≈F nat 0 → ⊥) → 0 < num y
unfolding whole
not_zero y p n = elim (eq-zero-or-pos (num y)) [ inl e ↦ absurd (n (rw (val_is y p) (≈F-trans (signed_cong (negative y) (ratio_same (ap (λ (k : ℕ). k * 1) e ∙ sym (zero-mul (den y))))) (both (negative y))))) | inr h ↦ h ]
  where
    both : (s : Bool) → signed s (nat 0) ≈F nat 0
    both false = ≈F-refl
    both true = ring [] (search quote depth 24) tt

pub positive_num : (y : Float) → nat 0 <F val y → 0 < num y
positive_num y h = not_zero y (positive-finite y h) (λ (e : val y ≈F nat 0). lt_not_le h (≤F-of-≈F e))

-- ---- the operations keep the order
module _ (x x' y y' : Float) (p : T (finite x)) (p' : T (finite x')) (q : T (finite y)) (q' : T (finite y')) where
  pub add_le : T (le x x') → T (le y y') → T (le (x ⊕ y) (x' ⊕ y'))
  add_le h k = rounds_le (add_rounds x y p q) (add_rounds x' y' p' q') (le_by (val x ∷ val x' ∷ val y ∷ val y' ∷ []) 0 (up (le_val x x' p p' h) ⊞ up (le_val y y' q q' k)) (search quote depth 24) tt)

-- the more is taken, the less is left
pub sub_ge : (x y y' : Float) → T (finite x) → T (finite y) → T (finite y') → T (le y y') → T (le (x ⊖ y') (x ⊖ y))
sub_ge x y y' p q q' h = rounds_le (sub_rounds x y' p q') (sub_rounds x y p q) (le_by (val x ∷ val y ∷ val y' ∷ []) 0 (up (le_val y y' q q' h)) (search quote depth 24) tt)

module _ (x y a : Float) (p : T (finite x)) (q : T (finite y)) (h : T (le x y)) where
  -- by a factor at least 0, and at most 0
  pub mul_le : T (finite a) → nat 0 ≤F val a → T (le (x ⊗ a) (y ⊗ a))
  mul_le r n = rounds_le (mul_rounds x a p r) (mul_rounds y a q r) (le_by (val x ∷ val y ∷ val a ∷ []) 0 (up (le_val x y p q h) ⊠ n) (search quote depth 24) tt)

  pub mul_ge : T (finite a) → val a ≤F nat 0 → T (le (y ⊗ a) (x ⊗ a))
  mul_ge r n = rounds_le (mul_rounds y a q r) (mul_rounds x a p r) (le_by (val x ∷ val y ∷ val a ∷ []) 0 (up (le_val x y p q h) ⊠ up n) (search quote depth 24) tt)

  -- by a divisor above 0
  pub div_le : nat 0 <F val a → T (le (x ⊘ a) (y ⊘ a))
  div_le r =
      let f = positive-finite a r in
      let n = positive_num a r in
      rounds_le (div_rounds x a p f n) (div_rounds y a q f n) (le_by (val x ∷ val y ∷ inv (val a) ∷ []) 0 (up (le_val x y p q h) ⊠ inv_nn r) (search quote depth 24) tt)

-- a dividend at least 0, by a larger divisor
pub div_ge : (x a b : Float) → T (finite x) → nat 0 ≤F val x → nat 0 <F val a → T (finite b) → T (le a b) → T (le (x ⊘ b) (x ⊘ a))
div_ge x a b p n r q h =
    let f = positive-finite a r in
    let l = le_val a b f q h in
    rounds_le (div_rounds x b p q (positive_num b (lt_le_trans r l))) (div_rounds x a p f (positive_num a r)) (le_by (val x ∷ inv (val a) ∷ inv (val b) ∷ []) 0 (n ⊠ up (inv_anti r l)) (search quote depth 24) tt)
