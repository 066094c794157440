-- The lesser, the greater and the clamp: they are bounds and the best ones, keep the order, and never widen a distance.
use Rattle.std.specs.Prelude.{Bool, true, false, not, cond, [], ◌∷◌, T, ◌*ℤ◌}
use Rattle.std.specs.Int.Signed.{le_z_yes}
use Rattle.fraction.specs.Integer.{not-≤ℤ}
use Rattle.fraction.specs.Fraction.{Fraction, below, nat, ◌+F◌, ◌-F◌, ◌≤?◌, min_f, max_f, clamp_f, ◌≈F◌, ◌≤F◌, ◌within◌, ◌from◌to◌}
use Rattle.fraction.proofs.Field.{≤F-trans, le_of_lt}
use Rattle.fraction.proofs.Order.{≤F-refl, ≤F-antisym}
use Rattle.fraction.proofs.Within.{within_nn, apart}
use Rattle.fraction.proofs.Certificate.{quote}
use Rattle.fraction.proofs.Certificate.{le_by, up, hi, lo, ◌⊞◌}

-- ---- what holds of both choices holds of the choice
choose : {A : Type 0} (P : A → Type 0) (b : Bool) {x y : A} → (T b → P x) → (T (not b) → P y) → P (cond b x y)
choose P true f g = f tt
choose P false f g = g tt

test_true : (x y : Fraction) → T (x ≤? y) → x ≤F y
unfolding ◌≤?◌
test_true x y t = record { cross = le_z_yes t }

test_false : (x y : Fraction) → T (not (x ≤? y)) → y ≤F x
unfolding ◌≤?◌
test_false x y t = le_of_lt (record { cross = not-≤ℤ (x.top *ℤ below y) (y.top *ℤ below x) t })

-- ---- the greater of two
pub max_left : (x y : Fraction) → x ≤F max_f x y
unfolding max_f
max_left x y = choose (λ z. x ≤F z) (x ≤? y) (test_true x y) (λ t. ≤F-refl)

pub max_right : (x y : Fraction) → y ≤F max_f x y
unfolding max_f
max_right x y = choose (λ z. y ≤F z) (x ≤? y) (λ t. ≤F-refl) (test_false x y)

pub max_least : {x y z : Fraction} → x ≤F z → y ≤F z → max_f x y ≤F z
unfolding max_f
max_least {x} {y} {z} h k = choose (λ w. w ≤F z) (x ≤? y) (λ t. k) (λ t. h)

-- ---- the lesser of two
pub min_left : (x y : Fraction) → min_f x y ≤F x
unfolding min_f
min_left x y = choose (λ z. z ≤F x) (x ≤? y) (λ t. ≤F-refl) (test_false x y)

pub min_right : (x y : Fraction) → min_f x y ≤F y
unfolding min_f
min_right x y = choose (λ z. z ≤F y) (x ≤? y) (test_true x y) (λ t. ≤F-refl)

pub min_greatest : {x y z : Fraction} → z ≤F x → z ≤F y → z ≤F min_f x y
unfolding min_f
min_greatest {x} {y} {z} h k = choose (λ w. z ≤F w) (x ≤? y) (λ t. h) (λ t. k)

-- ---- the clamp
-- one that is no more than another and e stays so
max_shift : (a x y e : Fraction) → nat 0 ≤F e → x ≤F y +F e → max_f a x ≤F max_f a y +F e
max_shift a x y e n h = max_least
    (le_by (a ∷ max_f a y ∷ e ∷ []) 0 (up (max_left a y) ⊞ n) (search quote depth 24) tt)
    (le_by (x ∷ y ∷ max_f a y ∷ e ∷ []) 0 (up h ⊞ up (max_right a y)) (search quote depth 24) tt)

min_shift : (b x y e : Fraction) → nat 0 ≤F e → x ≤F y +F e → min_f x b ≤F min_f y b +F e
min_shift b x y e n h =
    let p : min_f x b -F e ≤F y = le_by (x ∷ y ∷ min_f x b ∷ e ∷ []) 0 (up h ⊞ up (min_left x b)) (search quote depth 24) tt in
    let q : min_f x b -F e ≤F b = le_by (b ∷ min_f x b ∷ e ∷ []) 0 (up (min_right x b) ⊞ n) (search quote depth 24) tt in
    le_by (min_f x b ∷ min_f y b ∷ e ∷ []) 0 (up (min_greatest p q)) (search quote depth 24) tt

clamp_shift : (low high x y e : Fraction) → nat 0 ≤F e → x ≤F y +F e → clamp_f low high x ≤F clamp_f low high y +F e
unfolding clamp_f
clamp_shift low high x y e n h = min_shift high (max_f low x) (max_f low y) e n (max_shift low x y e n h)

pub clamp_mono : (low high : Fraction) {x y : Fraction} → x ≤F y → clamp_f low high x ≤F clamp_f low high y
clamp_mono low high {x} {y} h =
    let k : clamp_f low high x ≤F clamp_f low high y +F nat 0 = clamp_shift low high x y (nat 0) ≤F-refl (le_by (x ∷ y ∷ []) 0 (up h) (search quote depth 24) tt) in
    le_by (clamp_f low high x ∷ clamp_f low high y ∷ []) 0 (up k) (search quote depth 24) tt

pub clamp_apart : (low high x y : Fraction) {e : Fraction} → x -F y within e → clamp_f low high x -F clamp_f low high y within e
clamp_apart low high x y {e} h = apart
    (clamp_shift low high x y e (within_nn h) (le_by (x ∷ y ∷ e ∷ []) 0 (hi h) (search quote depth 24) tt))
    (clamp_shift low high y x e (within_nn h) (le_by (x ∷ y ∷ e ∷ []) 0 (lo h) (search quote depth 24) tt))

pub clamp_between : {low high : Fraction} (x : Fraction) → low ≤F high → clamp_f low high x from low to high
unfolding clamp_f
clamp_between {low} {high} x h = record { lower = min_greatest (max_left low x) h; upper = min_right (max_f low x) high }

-- its three cases
pub clamp_same : {low high x : Fraction} → x from low to high → clamp_f low high x ≈F x
unfolding clamp_f
clamp_same {low} {high} {x} h = ≤F-antisym (≤F-trans (min_left (max_f low x) high) (max_least h.lower ≤F-refl)) (min_greatest (max_right low x) h.upper)

pub clamp_low : {low high x : Fraction} → low ≤F high → x ≤F low → clamp_f low high x ≈F low
unfolding clamp_f
clamp_low {low} {high} {x} h k = ≤F-antisym (≤F-trans (min_left (max_f low x) high) (max_least ≤F-refl k)) (min_greatest (max_left low x) h)

pub clamp_high : (low : Fraction) {high x : Fraction} → high ≤F x → clamp_f low high x ≈F high
unfolding clamp_f
clamp_high low {high} {x} k = ≤F-antisym (min_right (max_f low x) high) (min_greatest (≤F-trans k (max_right low x)) ≤F-refl)
