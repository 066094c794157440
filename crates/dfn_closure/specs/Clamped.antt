-- A clamped number that is finite is in the clamp's range; the order on finite numbers; a clock that an interval is added to. Assumes nothing.
use Rattle.std.specs.Prelude.{◌≡◌, refl, Bool, true, false, not, cond, ◌&&◌, T, Float}
use Rattle.std.proofs.Common.{T_not}
use Rattle.std.specs.Float.{nan, inf, fin}
use Rattle.std.specs.Float.Ieee.{le, lt, add, of_bits}
use Rattle.std.specs.Float.Ieee.Scale.{finite}
use Rattle.std.specs.Float.Ieee.Fits.{and_i}
use Rattle.fraction.proofs.Field.{≈F-refl, ≤F-of-≈F, ≤F-trans, le_of_lt}
use Rattle.binary64.specs.Operators.{◌⊕◌}
use Rattle.binary64.proofs.Value.{le_val, val_le, lt_val}
use Rattle.binary64.specs.Order.{not→lt}
use Rattle.binary64.proofs.OrderLaws.{add_le}
use Rattle.binary64.specs.Literals.{«0·0»}
use Rattle.min_max.specs.MinMax.{clamp_of}

decide : {P : Type 0} (b : Bool) → (T b → P) → (T (not b) → P) → P
decide true f g = f tt
decide false f g = g tt

choose : {A : Type 0} (P : A → Type 0) (b : Bool) {x y : A} → (T b → P x) → (T (not b) → P y) → P (cond b x y)
choose P true f g = f tt
choose P false f g = g tt

-- ---- the order on finite numbers
pub le_self : (x : Float) → T (finite x) → T (le x x)
le_self x p = val_le x x p p (≤F-of-≈F ≈F-refl)

pub le_chain : (x y z : Float) → T (finite x) → T (finite y) → T (finite z) → T (le x y) → T (le y z) → T (le x z)
le_chain x y z p q r h k = val_le x z p r (≤F-trans (le_val x y p q h) (le_val y z q r k))

not_lt_le : (x y : Float) → T (finite x) → T (finite y) → T (not (lt x y)) → T (le y x)
not_lt_le x y p q t = decide (le y x) (λ h. h) (λ h. absurd (T_not (lt x y) t (not→lt x y p q (T_not (le y x) h))))

-- ---- clamped numbers
pub clamp_in : (x lo hi : Float) → T (finite lo) → T (finite hi) → T (le lo hi) → T (finite (clamp_of x lo hi)) → T (le lo (clamp_of x lo hi) && le (clamp_of x lo hi) hi)
clamp_in x lo hi p q h =
    choose (λ (y : Float). In (cond (lt hi y) hi y)) (lt x lo)
    (λ a. choose In (lt hi lo) (λ b f. top) (λ b f. and_i (le lo lo) (le lo hi) (le_self lo p) h))
    (λ a. choose In (lt hi x) (λ b f. top) (λ b f. and_i (le lo x) (le x hi) (not_lt_le x lo f p a) (not_lt_le hi x q f b)))
  where
    In : Float → Type 0
    In y = T (finite y) → T (le lo y && le y hi)

    top : T (le lo hi && le hi hi)
    top = and_i (le lo hi) (le hi hi) h (le_self hi q)

-- ---- the clock
interval_finite : (lo dt hi : Float) → T (finite lo) → T (finite hi) → T (lt lo dt) → T (le dt hi) → T (finite dt)
unfolding le lt
interval_finite lo (fin s m e) hi p q h k = tt
interval_finite lo nan hi p q h k = absurd k
interval_finite lo (inf false) nan p q h k = absurd q
interval_finite lo (inf false) (inf t) p q h k = absurd q
interval_finite lo (inf false) (fin t n d) p q h k = absurd k
interval_finite nan (inf true) hi p q h k = absurd p
interval_finite (inf s) (inf true) hi p q h k = absurd p
interval_finite (fin s m e) (inf true) hi p q h k = absurd h

zero_sum : «0·0» ⊕ «0·0» ≡ «0·0»
unfolding add of_bits
zero_sum = refl

zero_finite : T (finite «0·0»)
unfolding of_bits
zero_finite = tt

-- a clock at or above 0 and an interval above 0 and at most `hi`
pub clock_on : (t dt hi : Float) → T (finite hi) → T (finite t) → T (le «0·0» t) → T (lt «0·0» dt) → T (le dt hi) → T (le «0·0» (t ⊕ dt))
clock_on t dt hi q f h l k =
    let d = interval_finite «0·0» dt hi zero_finite q l k in
    let z : T (le «0·0» dt) = val_le «0·0» dt zero_finite d (le_of_lt (lt_val «0·0» dt zero_finite d l)) in
    rw zero_sum at (add_le «0·0» t «0·0» dt zero_finite f zero_finite d h z)
