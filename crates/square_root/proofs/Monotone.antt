-- S keeps the order of numbers that are not negative. It follows from what IEEE 754 asks, whatever the root is worked out by. Assumes nothing.
use mathlib.Core.Path.{◌≡◌, sym, ap, ◌∙◌, subst}
use mathlib.Core.Bool.{true, false}
use mathlib.Core.List.{[], ◌∷◌}
use mathlib.Core.Logic.{◌⊎◌, inl, inr}
use Prim.Native.Nat.{ℕ, zero, suc, ◌*◌, ◌<◌, zero-le}
use native.Mathlib.Nat.{le_trans, le_of_eq, not-le_of_lt, mul-pos, zero-mul, zero-lt-suc}
use lib.Dec.{T, lt→ltb, ltb→lt}
use lib.Ieee.{Float, nan, inf, fin, binary64, up, le, fits}
use lib.Ieee.Fits.{up_pos}
use lib.Ieee.Positive.{num, den, den_pos, positive}
use Rattle.fraction.specs.Fraction.{nat, ◌+F◌, ◌*F◌, ◌<F◌, ◌≤F◌}
use Rattle.fraction.proofs.Field.{lt_not_le, le_or_lt, le_of_lt}
use Rattle.fraction.proofs.Certificate as certificate
use Rattle.fraction.proofs.Certificate.{quote}
use Rattle.fraction.proofs.Certificate.{◌⊞◌, ◌⊠◌, le_by}
use Rattle.binary64.specs.Value.{val}
use Rattle.binary64.proofs.Value.{le_val, val_le}
use Rattle.square_root.specs.Root.{sqrt_of}
use Rattle.square_root.specs.Standard.{natural, square, Nearest}
use Rattle.square_root.proofs.Fractions.{natural_finite, val_most, most_val}
use Rattle.square_root.proofs.Standard.{standard, zero_root}

-- for x ≤ y and q < r, (r + q)² would be below 4 x and above 4 y
pub nearest_mono : (x y r q : Float) → T (fits binary64 r) → T (fits binary64 q) → Nearest x r → Nearest y q → val x ≤F val y → val r ≤F val q
nearest_mono x y r q fr fq a b l = elim (le_or_lt (val r) (val q)) [
  | inl h ↦ h
  | inr h ↦
      let below : square (val r +F val q) <F nat 4 *F val x = a.below q fq b.finite h in
      let above : nat 4 *F val y <F square (val q +F val r) = b.above r fr a.finite h in
      absurd (lt_not_le below (le_by (val x ∷ val y ∷ val r ∷ val q ∷ []) 0 (certificate.up (le_of_lt above) ⊞ certificate.num 4 ⊠ certificate.up l) (search quote depth 24) tt))
]

-- ---- zero, or above it
split : (x : Float) → T (natural x) → ((num x ≡ 0) × (sqrt_of x ≡ x)) ⊎ T (positive x)
split nan n = absurd n
split (inf s) n = absurd n
split (fin true m e) n = absurd n
split (fin false zero e) n = inl (zero-mul (up e), zero_root false e)
split (fin false (suc m) e) n = inr (lt→ltb 0 (suc m) (zero-lt-suc m))

pub positive_num : (x : Float) → T (positive x) → 0 < num x
positive_num nan p = absurd p
positive_num (inf s) p = absurd p
positive_num (fin true m e) p = absurd p
positive_num (fin false m e) p = mul-pos (ltb→lt 0 m p) (up_pos e)

pub sqrt_natural : (x : Float) → T (fits binary64 x) → T (natural x) → T (natural (sqrt_of x))
sqrt_natural x f n = elim (split x n) [
  | inl z ↦ subst (λ (r : Float). T (natural r)) (sym z.1) n
  | inr p ↦ ((standard x f).nearest p).finite
]

pub sqrt_mono : (x y : Float) → T (fits binary64 x) → T (fits binary64 y) → T (natural x) → T (natural y) → T (le x y) → T (le (sqrt_of x) (sqrt_of y))
sqrt_mono x y f g n k h = val_le (sqrt_of x) (sqrt_of y) (natural_finite (sqrt_of x) nr).0 (natural_finite (sqrt_of y) nq).0 (go (split x n) (split y k))
  where
    nr : T (natural (sqrt_of x))
    nr = sqrt_natural x f n

    nq : T (natural (sqrt_of y))
    nq = sqrt_natural y g k

    l : val x ≤F val y
    l = le_val x y (natural_finite x n).0 (natural_finite y k).0 h

    go : ((num x ≡ 0) × (sqrt_of x ≡ x)) ⊎ T (positive x) → ((num y ≡ 0) × (sqrt_of y ≡ y)) ⊎ T (positive y) → val (sqrt_of x) ≤F val (sqrt_of y)
    go (inl z) w = val_most (sqrt_of x) (sqrt_of y) nr nq (le_trans (le_of_eq (ap (λ (m : ℕ). m * den (sqrt_of y)) (ap num z.1 ∙ z.0) ∙ zero-mul (den (sqrt_of y)))) zero-le)
    go (inr p) (inl z) = absurd (not-le_of_lt (mul-pos (positive_num x p) (den_pos y)) (le_trans (most_val x y n k l) (le_of_eq (ap (λ (m : ℕ). m * den x) z.0 ∙ zero-mul (den x)))))
    go (inr p) (inr q) =
        let a = standard x f in
        let b = standard y g in
        nearest_mono x y (sqrt_of x) (sqrt_of y) a.format b.format (a.nearest p) (b.nearest q) l
