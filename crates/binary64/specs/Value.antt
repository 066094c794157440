-- The value of a float as a fraction. The order of finite floats is that of their values. Assumes nothing.
use Rattle.std.specs.Prelude.{◌≡◌, [], ◌∷◌, ℕ, ◌+◌, ◌*◌, ◌^◌, ◌≤◌, ◌<◌, Bool, true, false, T, ℤ, pos, nat_abs, Float}
use Rattle.std.proofs.Common.{ap, zero-le, le_trans, le_of_eq, mul-one, zero-mul}
use Rattle.std.proofs.Math.Bridge.{le_prop}
use Rattle.std.specs.Float.{nan, inf, fin, binary64}
use Rattle.std.specs.Float.Ieee.{up, down, of_int}
use Rattle.std.specs.Float.Ieee.Fits.{down_pos}
use Rattle.std.specs.Float.Ieee.Positive.{num, den, den_pos}
use Rattle.std.specs.Float.Ieee.Scale.{finite}
use Rattle.fraction.specs.Integer.{pos-≤, ≤-pos}
use Rattle.fraction.specs.Fraction.{Fraction, whole, nat, ◌+F◌, neg_f, ◌-F◌, ◌≈F◌, ◌≤F◌, ◌within◌}
use Rattle.fraction.proofs.Field.{≈F-refl, neg_f-cong}
use Rattle.fraction.proofs.Certificate.{quote}
use Rattle.fraction.proofs.Certificate.{ring, le_by, up as gap, lo, ◌⊞◌}
use Rattle.fraction.proofs.Within.{within_neg}
use Rattle.binary64.specs.Operators.{negative}
use Rattle.binary64.specs.Order.{Below, value_finite, below_zero_lem, int_value}

-- a / c
abbrev pub ratio : (a c : ℕ) → 0 < c → Fraction
ratio a c C = record { top = pos a; bottom = c; above = C }

-- q, or -q
abbrev pub signed : Bool → Fraction → Fraction
signed false q = q
signed true q = neg_f q

-- the value of a finite float, and 0 for a NaN and an infinity
unfoldable pub val : Float → Fraction
val nan = nat 0
val (inf s) = nat 0
val (fin s m e) = signed s (ratio (m * up e) (down e) (down_pos e))

pub val_is : (x : Float) → T (finite x) → val x ≡ signed (negative x) (ratio (num x) (den x) (den_pos x))
unfolding val
val_is nan p = absurd p
val_is (inf s) p = absurd p
val_is (fin s m e) p = ap (λ (C : 0 < down e). signed s (ratio (m * up e) (down e) C)) (le_prop (down_pos e) (den_pos (fin s m e)))

-- ---- fractions of naturals, with a sign
pub ratio_le : {a c b d : ℕ} {C : 0 < c} {D : 0 < d} → a * d ≤ b * c → ratio a c C ≤F ratio b d D
ratio_le h = record { cross = pos-≤ h }

pub ratio_same : {a c b d : ℕ} {C : 0 < c} {D : 0 < d} → a * d ≡ b * c → ratio a c C ≈F ratio b d D
ratio_same h = record { cross = ap pos h }

pub ratio_nn : (a c : ℕ) (C : 0 < c) → nat 0 ≤F ratio a c C
unfolding whole
ratio_nn a c C = record { cross = pos-≤ (le_trans (le_of_eq (zero-mul c)) zero-le) }

pub signed_cong : (s : Bool) {p q : Fraction} → p ≈F q → signed s p ≈F signed s q
signed_cong false e = e
signed_cong true e = neg_f-cong e

pub signed_within : (s : Bool) {q e : Fraction} → q within e → signed s q within e
signed_within false h = h
signed_within true h = within_neg h

pub signed_size : (s : Bool) (q A : Fraction) → signed s q within A → q ≤F A
signed_size false q A h = h.hi
signed_size true q A h = le_by (q ∷ A ∷ []) 0 (lo h) (search quote depth 24) tt

pub signed_sub : (s : Bool) (p q : Fraction) → signed s p -F signed s q ≈F signed s (p -F q)
signed_sub false p q = ≈F-refl
signed_sub true p q = ring (p ∷ q ∷ []) (search quote depth 24) tt

-- the order, for each pair of signs
sum_zero : (a c b d : ℕ) (C : 0 < c) (D : 0 < d) → ratio a c C +F ratio b d D ≤F nat 0 → a * d + b * c ≤ 0
unfolding whole ◌+F◌
sum_zero a c b d C D h = simp (mul-one, zero-mul) at (≤-pos h.cross)

zero_sum : (a c b d : ℕ) (C : 0 < c) (D : 0 < d) → a * d + b * c ≤ 0 → ratio a c C +F ratio b d D ≤F nat 0
unfolding whole ◌+F◌
zero_sum a c b d C D h = record { cross = simp (mul-one, zero-mul) (pos-≤ h) }

pub signed→below : (s t : Bool) (a c b d : ℕ) (C : 0 < c) (D : 0 < d) → signed s (ratio a c C) ≤F signed t (ratio b d D) → Below s (a * d) t (b * c)
signed→below false false a c b d C D h = ≤-pos h.cross
signed→below false true a c b d C D h = sum_zero a c b d C D (le_by (ratio a c C ∷ ratio b d D ∷ []) 0 (gap h) (search quote depth 24) tt)
signed→below true false a c b d C D h = zero-le
signed→below true true a c b d C D h =
    let k : ratio b d D ≤F ratio a c C = le_by (ratio a c C ∷ ratio b d D ∷ []) 0 (gap h) (search quote depth 24) tt in
    ≤-pos k.cross

pub below→signed : (s t : Bool) (a c b d : ℕ) (C : 0 < c) (D : 0 < d) → Below s (a * d) t (b * c) → signed s (ratio a c C) ≤F signed t (ratio b d D)
below→signed false false a c b d C D h = ratio_le h
below→signed false true a c b d C D h = le_by (ratio a c C ∷ ratio b d D ∷ []) 0 (gap (zero_sum a c b d C D h)) (search quote depth 24) tt
below→signed true false a c b d C D h = le_by (ratio a c C ∷ ratio b d D ∷ []) 0 (ratio_nn a c C ⊞ ratio_nn b d D) (search quote depth 24) tt
below→signed true true a c b d C D h =
    let k : ratio b d D ≤F ratio a c C = ratio_le h in
    le_by (ratio a c C ∷ ratio b d D ∷ []) 0 (gap k) (search quote depth 24) tt

pub int_finite : (z : ℤ) → nat_abs z ≤ 2 ^ 53 → T (finite (of_int binary64 z))
int_finite z h = value_finite (of_int binary64 z) (below_zero_lem z) (nat_abs z) 1 (int_value z h)
