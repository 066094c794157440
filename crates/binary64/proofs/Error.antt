-- The error of one rounding. For every A from 2 ^ -1022 to 2 ^ 1023 with |Q| ≤ A, Q rounded is finite and within A / 2 ^ 53 of Q: normal and subnormal results alike.
-- Assumes nothing.
use Rattle.std.specs.Prelude.{refl, [], ◌∷◌, ℕ, ◌+◌, ◌*◌, ◌^◌, ◌≤◌, ◌<◌, Bool, T, pos, Float}
use Rattle.std.proofs.Common.{sym, ap, subst, inl, inr, le_trans, le_of_eq, mul-one, one-mul, mul_comm, mul_assoc, mul_left_comm, add-mul, mul-le-mul_right, arith, pow_pos}
use Rattle.std.specs.Float.{binary64}
use Rattle.std.specs.Float.Ieee.{round}
use Rattle.std.specs.Float.Ieee.Exact.{HasValue, units_val}
use Rattle.std.specs.Float.Ieee.Fits.{round_is}
use Rattle.std.specs.Float.Ieee.Order.{drop, kept}
use Rattle.std.specs.Float.Ieee.Scale.{finite, grid, round_under}
use Rattle.fraction.specs.Integer.{pos-≤, ≤-pos}
use Rattle.fraction.specs.Fraction.{Fraction, whole, nat, pow2, frac, ◌+F◌, neg_f, ◌-F◌, ◌*F◌, ◌≈F◌, ◌≤F◌, ◌within◌}
use Rattle.fraction.proofs.Field.{≈F-sym, ≈F-trans, +F-cong, neg_f-cong, ≤F-of-≈F, ≤F-trans}
use Rattle.fraction.proofs.Certificate.{quote}
use Rattle.fraction.proofs.Certificate.{within_by, up, num, eqn, ◌⊞◌, ◌⊠◌, ◌·◌}
use Rattle.fraction.proofs.Inverse.{mul_cancel}
use Rattle.fraction.proofs.Order.{pow2_pos}
use Rattle.fraction.proofs.Size.{Size}
use Rattle.fraction.proofs.Within.{within_resp}
use Rattle.binary64.specs.Nearest.{unit, unit_cases, grid_half}
use Rattle.binary64.proofs.Range.{round_most}
use Rattle.binary64.proofs.Rounds.{Rounds}
use Rattle.binary64.specs.Sign.{round_finite}
use Rattle.binary64.specs.Value.{ratio, val, signed_within, signed_size, signed_sub}
use Rattle.binary64.proofs.Value.{value_is}
use Rattle.binary64.specs.Error.{Close, u, u_is, u_nn}

-- ---- what `round` makes of ±a / c, with a / c ≤ A
round_value : (s : Bool) (a c : ℕ) → T (finite (round binary64 s a c)) → HasValue (round binary64 s a c) s (grid binary64 a c) (2 ^ 1074)
round_value s a c p = subst (λ (z : Float). HasValue z s (grid binary64 a c) (2 ^ 1074)) (sym (round_is binary64 s a c))
    (units_val binary64 s (kept 53 (a * 2 ^ 1074) c) (drop 53 (a * 2 ^ 1074) c) (round_under binary64 a c (subst (λ (b : Bool). T b) (round_finite binary64 s a c) p)))

-- twice the distance is at most a unit, as fractions
twice_le : (G L a c U : ℕ) (P : 0 < L) (C : 0 < c) → G * c * 2 ≤ a * L * 2 + U * c → nat 2 *F ratio G L P ≤F nat 2 *F ratio a c C +F ratio U L P
unfolding whole ◌*F◌ ◌+F◌
twice_le G L a c U P C h = record { cross = pos-≤ sorted }
  where
    sorted : 2 * G * (1 * c * L) ≤ (2 * a * L + U * (1 * c)) * (1 * L)
    sorted = simp (one-mul, add-mul, mul_assoc, mul_comm, mul_left_comm) (simp (add-mul, mul_assoc, mul_comm, mul_left_comm) at (mul-le-mul_right L h))

twice_ge : (G L a c U : ℕ) (P : 0 < L) (C : 0 < c) → a * L * 2 ≤ G * c * 2 + U * c → nat 2 *F ratio a c C ≤F nat 2 *F ratio G L P +F ratio U L P
unfolding whole ◌*F◌ ◌+F◌
twice_ge G L a c U P C h = record { cross = pos-≤ sorted }
  where
    sorted : 2 * a * (1 * L * L) ≤ (2 * G * L + U * (1 * L)) * (1 * c)
    sorted = simp (one-mul, add-mul, mul_assoc, mul_comm, mul_left_comm) (simp (add-mul, mul_assoc, mul_comm, mul_left_comm) at (mul-le-mul_right L h))

-- 2 ^ 52 units are at most A
smallest : ratio 1 (2 ^ 1074) (pow_pos 1074) *F pow2 52 *F pow2 1022 ≈F nat 1
unfolding whole ◌*F◌
smallest = record { cross = refl }

large : (U a c L : ℕ) (C : 0 < c) (P : 0 < L) → U * 2 ^ 52 * c ≤ a * L → ratio U L P *F pow2 52 ≤F ratio a c C
unfolding whole ◌*F◌
large U a c L C P h = record { cross = pos-≤ (le_trans h (le_of_eq (ap (λ (k : ℕ). a * k) (sym (mul-one L))))) }

unit_le : (a c : ℕ) (C : 0 < c) (A : Fraction) → ratio a c C ≤F A → nat 1 ≤F A *F pow2 1022 → ratio (unit a c) (2 ^ 1074) (pow_pos 1074) *F pow2 52 ≤F A
unit_le a c C A h l = elim (unit_cases a c C) [
  | inl e ↦ subst (λ (k : ℕ). ratio k (2 ^ 1074) (pow_pos 1074) *F pow2 52 ≤F A) (sym e) (mul_cancel (ratio 1 (2 ^ 1074) (pow_pos 1074) *F pow2 52) A (pow2_pos 1022) (≤F-trans (≤F-of-≈F smallest) l))
  | inr k ↦ ≤F-trans (large (unit a c) a c (2 ^ 1074) C (pow_pos 1074) k) h
]

module _ (s : Bool) (a c : ℕ) (C : 0 < c) (A : Fraction) (h : ratio a c C ≤F A) where
  round_fine : A ≤F pow2 1023 → T (finite (round binary64 s a c))
  unfolding whole
  round_fine m = (round_most s a c C (2 ^ 1023) 1 tt (≤-pos (≤F-trans h m).cross)).fine

  abbrev L : 0 < 2 ^ 1074
  L = pow_pos 1074

  round_near : nat 1 ≤F A *F pow2 1022 → ratio (grid binary64 a c) (2 ^ 1074) L -F ratio a c C within A *F u
  round_near l =
      let g = grid_half a c C in
      let q = ratio a c C in
      let w = ratio (unit a c) (2 ^ 1074) L in
      let v = unit_le a c C A h l in
      within_by (ratio (grid binary64 a c) (2 ^ 1074) L ∷ ratio a c C ∷ ratio (unit a c) (2 ^ 1074) L ∷ A ∷ u ∷ []) 1
      (up (twice_le (grid binary64 a c) (2 ^ 1074) a c (unit a c) L C g.0) ⊞ num 2 ⊠ u_nn ⊠ up v ⊞ eqn (neg_f w · u_is))
      (up (twice_ge (grid binary64 a c) (2 ^ 1074) a c (unit a c) L C g.1) ⊞ num 2 ⊠ u_nn ⊠ up v ⊞ eqn (neg_f w · u_is)) (search quote depth 24) tt tt

-- ---- the law, for whatever is rounded once
pub rounding_error : {Q A : Fraction} {r : Float} → Rounds Q r → Q within A → Size A 1022 1023 → Close r Q (A *F u)
rounding_error {Q} {A} {r} h w z =
    let s = h.sign in
    let a = h.top in
    let c = h.bottom in
    let q = ratio a c h.above in
    let g = ratio (grid binary64 a c) (2 ^ 1074) (pow_pos 1074) in
    let k = signed_size s q A (within_resp (≈F-sym h.same) w) in
    let f = round_fine s a c h.above A k z.high in
    subst (λ (z : Float). Close z Q (A *F u)) (sym h.is)
    (record {
      fine = f;
      near = within_resp (≈F-trans (≈F-sym (signed_sub s g q)) (+F-cong (≈F-sym (value_is (round binary64 s a c) s (grid binary64 a c) (2 ^ 1074) (pow_pos 1074) (round_value s a c f))) (neg_f-cong h.same)))
          (signed_within s (round_near s a c h.above A k z.low));
    })
