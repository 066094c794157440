-- The fractions are an ordered commutative ring, each law by cross products over the whole numbers.
use Rattle.std.specs.Prelude.{refl, List, [], ◌∷◌, ◌⊎◌, ℕ, suc, ℤ, pos, ◌+ℤ◌, ◌*ℤ◌, neg_ℤ}
use Rattle.std.proofs.Common.{sym, inl, inr, zero-lt-suc}
use Rattle.fraction.specs.Integer.{≤ℤ-cancel, nn_div, ≤ℤ-or, <ℤ-≤ℤ}
use Rattle.std.specs.Int.Signed.{clash_ℤ}
use Rattle.fraction.specs.Ring.{CRing}
use Rattle.fraction.specs.Quote.{Ordered}
use Rattle.fraction.specs.IntegerRing.{zquote, zring, zle_by, Nonneg, up, natural, ◌⊞◌, ◌⊠◌, zeq_by, ◌·◌, ◌&◌, zcancel, ≤ℤ-of-≡}
use Rattle.fraction.specs.Fraction.{Fraction, below, whole, nat, ◌+F◌, neg_f, ◌*F◌, ◌≈F◌, ◌≤F◌, ◌<F◌}

-- the numbers of a fraction as the solver's variables
abbrev parts : Fraction → List ℤ → List ℤ
parts x l = x.top ∷ below x ∷ l

-- ---- equality
pub ≈F-refl : {x : Fraction} → x ≈F x
≈F-refl = record { cross = refl }

pub ≈F-sym : {x y : Fraction} → x ≈F y → y ≈F x
≈F-sym h = record { cross = sym h.cross }

pub ≈F-trans : {x y z : Fraction} → x ≈F y → y ≈F z → x ≈F z
≈F-trans {x} {y} {z} h k = record {
  cross = zcancel y.bottom y.above (x.top *ℤ below z) (z.top *ℤ below x)
      (zeq_by (parts x (parts y (parts z []))) (below z · h.cross & below x · k.cross) (search zquote depth 24) tt);
}

pub +F-cong : {x y z w : Fraction} → x ≈F y → z ≈F w → x +F z ≈F y +F w
unfolding ◌+F◌
+F-cong {x} {y} {z} {w} h k = record {
  cross = zeq_by (parts x (parts y (parts z (parts w [])))) (below z *ℤ below w · h.cross & below x *ℤ below y · k.cross) (search zquote depth 24) tt;
}

pub *F-cong : {x y z w : Fraction} → x ≈F y → z ≈F w → x *F z ≈F y *F w
unfolding ◌*F◌
*F-cong {x} {y} {z} {w} h k = record {
  cross = zeq_by (parts x (parts y (parts z (parts w [])))) (z.top *ℤ below w · h.cross & y.top *ℤ below x · k.cross) (search zquote depth 24) tt;
}

pub neg_f-cong : {x y : Fraction} → x ≈F y → neg_f x ≈F neg_f y
unfolding neg_f
neg_f-cong {x} {y} h = record { cross = zeq_by (parts x (parts y [])) (neg_ℤ (pos 1) · h.cross) (search zquote depth 24) tt }

-- ---- the ring's laws
pub +F-assoc : (x y z : Fraction) → x +F y +F z ≈F x +F (y +F z)
unfolding ◌+F◌
+F-assoc x y z = record { cross = zring (parts x (parts y (parts z []))) (search zquote depth 24) tt }

pub +F-comm : (x y : Fraction) → x +F y ≈F y +F x
unfolding ◌+F◌
+F-comm x y = record { cross = zring (parts x (parts y [])) (search zquote depth 24) tt }

pub +F-zero : (x : Fraction) → x +F nat 0 ≈F x
unfolding ◌+F◌ whole
+F-zero x = record { cross = zring (parts x []) (search zquote depth 24) tt }

pub +F-neg : (x : Fraction) → x +F neg_f x ≈F nat 0
unfolding ◌+F◌ neg_f whole
+F-neg x = record { cross = zring (parts x []) (search zquote depth 24) tt }

pub *F-assoc : (x y z : Fraction) → x *F y *F z ≈F x *F (y *F z)
unfolding ◌*F◌
*F-assoc x y z = record { cross = zring (parts x (parts y (parts z []))) (search zquote depth 24) tt }

pub *F-comm : (x y : Fraction) → x *F y ≈F y *F x
unfolding ◌*F◌
*F-comm x y = record { cross = zring (parts x (parts y [])) (search zquote depth 24) tt }

pub *F-one : (x : Fraction) → x *F nat 1 ≈F x
unfolding ◌*F◌ whole
*F-one x = record { cross = zring (parts x []) (search zquote depth 24) tt }

pub *F-+F : (x y z : Fraction) → x *F (y +F z) ≈F x *F y +F x *F z
unfolding ◌*F◌ ◌+F◌
*F-+F x y z = record { cross = zring (parts x (parts y (parts z []))) (search zquote depth 24) tt }

pub whole-+ : (a b : ℤ) → whole (a +ℤ b) ≈F whole a +F whole b
unfolding ◌+F◌ whole
whole-+ a b = record { cross = zring (a ∷ b ∷ []) (search zquote depth 24) tt }

pub whole-* : (a b : ℤ) → whole (a *ℤ b) ≈F whole a *F whole b
unfolding ◌*F◌ whole
whole-* a b = record { cross = refl }

pub whole_neg : (a : ℤ) → whole (neg_ℤ a) ≈F neg_f (whole a)
unfolding neg_f whole
whole_neg a = record { cross = refl }

abbrev pub Fring : CRing
Fring = record {
  R = Fraction;
  eq = ◌≈F◌;
  add = ◌+F◌;
  mul = ◌*F◌;
  neg = neg_f;
  of = whole;
  rfl = ≈F-refl;
  symm = ≈F-sym;
  trans = ≈F-trans;
  add_cong = +F-cong;
  mul_cong = *F-cong;
  neg_cong = neg_f-cong;
  add_assoc = +F-assoc;
  add_comm = +F-comm;
  add-zero = +F-zero;
  add_neg = +F-neg;
  mul_assoc = *F-assoc;
  mul_comm = *F-comm;
  mul-one = *F-one;
  mul-add = *F-+F;
  of_add = whole-+;
  of_mul = whole-*;
  of_neg = whole_neg;
}

-- ---- the order
-- what x ≤ y says is at least 0
cross_gap : {x y : Fraction} → x ≤F y → Nonneg (y.top *ℤ below x +ℤ neg_ℤ (x.top *ℤ below y))
cross_gap {x} {y} h = up (x.top *ℤ below y) (y.top *ℤ below x) h.cross

pub ≤F-of-≈F : {x y : Fraction} → x ≈F y → x ≤F y
≤F-of-≈F h = record { cross = ≤ℤ-of-≡ h.cross }

pub ≤F-trans : {x y z : Fraction} → x ≤F y → y ≤F z → x ≤F z
≤F-trans {x} {y} {z} h k = record {
  cross = ≤ℤ-cancel y.bottom y.above (x.top *ℤ below z) (z.top *ℤ below x)
      (zle_by (parts x (parts y (parts z []))) (cross_gap h ⊠ natural z.bottom ⊞ cross_gap k ⊠ natural x.bottom) (x.top *ℤ below z *ℤ below y) (z.top *ℤ below x *ℤ below y) (search zquote depth 24) tt);
}

-- 0 ≤ x, by the number above
nn_of_top : {x : Fraction} → Nonneg x.top → nat 0 ≤F x
unfolding whole
nn_of_top {x} h = record { cross = zle_by (parts x []) h (pos 0 *ℤ below x) (x.top *ℤ pos 1) (search zquote depth 24) tt }

top_of_nn : {x : Fraction} → nat 0 ≤F x → Nonneg x.top
unfolding whole
top_of_nn {x} h = record { holds = zle_by (parts x []) (cross_gap h) (pos 0) x.top (search zquote depth 24) tt }

-- y − x is at least 0 where x ≤ y
pub to_gap : {x y : Fraction} → x ≤F y → nat 0 ≤F y +F neg_f x
unfolding ◌+F◌ neg_f
to_gap {x} {y} h = nn_of_top {x = y +F neg_f x} (record { holds = zle_by (parts x (parts y [])) (cross_gap h) (pos 0) (y.top *ℤ below x +ℤ neg_ℤ x.top *ℤ below y) (search zquote depth 24) tt })

pub from_gap : {x y : Fraction} → nat 0 ≤F y +F neg_f x → x ≤F y
unfolding ◌+F◌ neg_f
from_gap {x} {y} h = record { cross = zle_by (parts x (parts y [])) (top_of_nn {x = y +F neg_f x} h) (x.top *ℤ below y) (y.top *ℤ below x) (search zquote depth 24) tt }

pub nn-add_f : {x y : Fraction} → nat 0 ≤F x → nat 0 ≤F y → nat 0 ≤F x +F y
unfolding ◌+F◌
nn-add_f {x} {y} h k = nn_of_top {x = x +F y} (top_of_nn h ⊠ natural y.bottom ⊞ top_of_nn k ⊠ natural x.bottom)

pub nn-mul_f : {x y : Fraction} → nat 0 ≤F x → nat 0 ≤F y → nat 0 ≤F x *F y
unfolding ◌*F◌
nn-mul_f {x} {y} h k = nn_of_top {x = x *F y} (top_of_nn h ⊠ top_of_nn k)

pub nn-nat_f : (n : ℕ) → nat 0 ≤F nat n
unfolding whole
nn-nat_f n = nn_of_top {x = nat n} (natural n)

pub nn-div_f : (k : ℕ) {x : Fraction} → nat 0 ≤F nat (suc k) *F x → nat 0 ≤F x
unfolding ◌*F◌ whole
nn-div_f k {x} h = nn_of_top (record { holds = nn_div (suc k) x.top (zero-lt-suc k) (top_of_nn {x = nat (suc k) *F x} h).holds })

abbrev pub Ford : Ordered Fring
Ford = record { le = ◌≤F◌; le_eq = ≤F-of-≈F; le_trans = ≤F-trans; from_gap = from_gap; nn_div = nn-div_f }

-- ---- the strict order: not the other way round
pub lt_not_le : {x y : Fraction} → x <F y → y ≤F x → ⊥
lt_not_le {x} {y} h k = clash_ℤ h.cross k.cross

pub le_or_lt : (x y : Fraction) → (x ≤F y) ⊎ (y <F x)
le_or_lt x y = elim (≤ℤ-or (x.top *ℤ below y) (y.top *ℤ below x)) [ inl h ↦ inl (record { cross = h }) | inr h ↦ inr (record { cross = h }) ]

pub lt_of_not_le : {x y : Fraction} → (y ≤F x → ⊥) → x <F y
lt_of_not_le {x} {y} n = elim (le_or_lt y x) [ inl h ↦ absurd (n h) | inr h ↦ h ]

-- x < y, if y ≤ x would undo another z < w
pub lt_from : {x y z w : Fraction} → z <F w → (y ≤F x → w ≤F z) → x <F y
lt_from h f = lt_of_not_le (λ l. lt_not_le h (f l))

pub le_of_lt : {x y : Fraction} → x <F y → x ≤F y
le_of_lt {x} {y} h = record { cross = <ℤ-≤ℤ (x.top *ℤ below y) (y.top *ℤ below x) h.cross }
