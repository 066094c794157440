-- Laws of the order: ≤ and <, sums, products, natural numbers, powers of 2, closed fractions.
use Rattle.std.specs.Prelude.{◌≡◌, [], ◌∷◌, not, ℕ, suc, ◌+◌, ◌*◌, ◌^◌, ◌<◌, ◌≤◌, T, pos, ◌*ℤ◌}
use Rattle.std.proofs.Common.{ap, arith, pow-add, pow_pos, pow_mono}
use Rattle.fraction.specs.Integer.{≤ℤ-antisym, not-≤ℤ, pos-≤, pos-<}
use Rattle.std.specs.Int.Signed.{le_z, le_z_yes}
use Rattle.fraction.specs.Fraction.{Fraction, below, whole, nat, pow2, ◌+F◌, ◌*F◌, ◌≈F◌, ◌≤F◌, ◌<F◌}
use Rattle.fraction.proofs.Field.{≈F-refl, ≈F-sym, ≤F-of-≈F, ≤F-trans, whole-*, lt_from}
use Rattle.fraction.proofs.Certificate.{quote}
use Rattle.fraction.proofs.Certificate.{le_by, up, ◌⊞◌, ◌⊠◌}

-- ---- ≤
pub ≤F-refl : {x : Fraction} → x ≤F x
≤F-refl = ≤F-of-≈F ≈F-refl

pub ≤F-antisym : {x y : Fraction} → x ≤F y → y ≤F x → x ≈F y
≤F-antisym {x} {y} h k = record { cross = ≤ℤ-antisym (x.top *ℤ below y) (y.top *ℤ below x) h.cross k.cross }

pub ≤F-resp : {x x' y y' : Fraction} → x ≈F x' → y ≈F y' → x ≤F y → x' ≤F y'
≤F-resp p q h = ≤F-trans (≤F-of-≈F (≈F-sym p)) (≤F-trans h (≤F-of-≈F q))

-- factors that are at least 0
pub mul_mono : {x y z w : Fraction} → nat 0 ≤F x → x ≤F y → nat 0 ≤F z → z ≤F w → x *F z ≤F y *F w
mul_mono {x} {y} {z} {w} p h q k = le_by (x ∷ y ∷ z ∷ w ∷ []) 0 (up h ⊠ (q ⊞ up k) ⊞ p ⊠ up k) (search quote depth 24) tt

-- ---- <
pub lt_le_trans : {x y z : Fraction} → x <F y → y ≤F z → x <F z
lt_le_trans h k = lt_from h (λ l. ≤F-trans k l)

-- ---- natural numbers
pub nat_le : (a b : ℕ) → a ≤ b → nat a ≤F nat b
unfolding whole
nat_le a b h = record { cross = pos-≤ (omega arith) }

pub nat_lt : (a b : ℕ) → a < b → nat a <F nat b
unfolding whole
nat_lt a b h = record { cross = pos-< (omega arith) }

-- what a factor at least 0 brings to 1 is above 0
pub pos_of_one : (x p : Fraction) → nat 1 ≤F x *F p → nat 0 ≤F p → nat 0 <F x
pos_of_one x p h n = lt_from (nat_lt 0 1 (omega arith)) (λ (l : x ≤F nat 0). le_by (x ∷ p ∷ []) 0 (up h ⊞ up l ⊠ n) (search quote depth 24) tt)

pub nat-* : (a b : ℕ) → nat (a * b) ≈F nat a *F nat b
nat-* a b = whole-* (pos a) (pos b)

pub nat_suc : (n : ℕ) → nat (suc n) ≈F nat n +F nat 1
unfolding whole ◌+F◌
nat_suc n = record { cross = ap pos (omega arith) }

-- ---- powers of 2
pub pow2_add : (e f : ℕ) → pow2 (e + f) ≈F pow2 e *F pow2 f
pow2_add e f = rw (pow-add 2 e f) (nat-* (2 ^ e) (2 ^ f))

pub pow2_pos : (e : ℕ) → nat 0 <F pow2 e
pow2_pos e = nat_lt 0 (2 ^ e) (pow_pos e)

pub pow2_mono : (e f : ℕ) → e ≤ f → pow2 e ≤F pow2 f
pow2_mono e f h = nat_le (2 ^ e) (2 ^ f) (pow_mono h)

-- ---- closed fractions, by computing
pub lit≤F : {x y : Fraction} → T (le_z (x.top *ℤ below y) (y.top *ℤ below x)) → x ≤F y
lit≤F {x} {y} t = record { cross = le_z_yes t }

pub lit<F : {x y : Fraction} → T (not (le_z (y.top *ℤ below x) (x.top *ℤ below y))) → x <F y
lit<F {x} {y} t = record { cross = not-≤ℤ (y.top *ℤ below x) (x.top *ℤ below y) t }

pub lit≈F : {x y : Fraction} → x.top *ℤ below y ≡ y.top *ℤ below x → x ≈F y
lit≈F e = record { cross = e }
