-- The clamp of binary64 on finite floats: its result is finite, and its value is the exact clamp of the value.
use Rattle.std.specs.Prelude.{Bool, true, false, not, cond, T, Float}
use Rattle.std.proofs.Common.{inl, inr, T_not}
use Rattle.std.specs.Float.Ieee.{lt}
use Rattle.std.specs.Float.Ieee.Scale.{finite}
use Rattle.fraction.specs.Fraction.{Fraction, clamp_f, ◌≈F◌, ◌≤F◌}
use Rattle.fraction.proofs.Field.{≈F-sym, ≈F-trans, ≤F-of-≈F, ≤F-trans, lt_not_le, le_or_lt, le_of_lt}
use Rattle.fraction.proofs.Clamp.{clamp_same, clamp_low, clamp_high}
use Rattle.binary64.specs.Value.{val}
use Rattle.binary64.proofs.Value.{lt_val, val_lt}
use Rattle.min_max.specs.MinMax.{clamp_of}

choose : {A : Type 0} (P : A → Type 0) (b : Bool) {x y : A} → (T b → P x) → (T (not b) → P y) → P (cond b x y)
choose P true f g = f tt
choose P false f g = g tt

not_lt : (x y : Float) → T (finite x) → T (finite y) → T (not (lt x y)) → val y ≤F val x
not_lt x y p q t = elim (le_or_lt (val y) (val x)) [
  | inl h ↦ h
  | inr h ↦ absurd (T_not (lt x y) t (val_lt x y p q h))
]

pub record Clamped (y : Float) (q : Fraction) : Type 0 where
  pub fine : T (finite y)
  pub is : val y ≈F q

pub clamp_value : (x lo hi : Float) (low : Fraction) → T (finite x) → T (finite lo) → T (finite hi) → val lo ≈F low → low ≤F val hi → Clamped (clamp_of x lo hi) (clamp_f low (val hi) (val x))
clamp_value x lo hi low p q r e h = choose (λ (y : Float). Clamped (cond (lt hi y) hi y) (clamp_f low (val hi) (val x))) (lt x lo)
    (λ a. choose Result (lt hi lo)
    (λ b. absurd (lt_not_le (lt_val hi lo r q b) (≤F-trans (≤F-of-≈F e) h)))
    (λ b. record { fine = q; is = ≈F-trans e (≈F-sym (clamp_low h (≤F-trans (le_of_lt (lt_val x lo p q a)) (≤F-of-≈F e)))) }))
    (λ a. choose Result (lt hi x)
    (λ b. record { fine = r; is = ≈F-sym (clamp_high low (le_of_lt (lt_val hi x r p b))) })
    (λ b. record { fine = p; is = ≈F-sym (clamp_same (record { lower = ≤F-trans (≤F-of-≈F (≈F-sym e)) (not_lt x lo p q a); upper = not_lt hi x r p b })) }))
  where
    Result : Float → Type 0
    Result y = Clamped y (clamp_f low (val hi) (val x))
