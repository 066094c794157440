-- Fractions: a whole number of either sign over one above 0, compared by cross products. Definitions only.
use Rattle.std.specs.Prelude.{◌≡◌, Bool, cond, ℕ, zero, suc, ◌*◌, ◌^◌, ◌<◌, T, ltb, ℤ, pos, negsuc, ◌+ℤ◌, ◌*ℤ◌, neg_ℤ, nat_abs, ◌≤ℤ◌, ◌<ℤ◌}
use Rattle.std.proofs.Common.{mul-pos, zero-lt-suc, ltb→lt}
use Rattle.std.specs.Int.Signed.{le_z}

pub record Fraction : Type 0 where
  pub top : ℤ
  pub bottom : ℕ
  pub above : 0 < bottom

-- the number below, as a whole number
abbrev pub below : Fraction → ℤ
below x = pos x.bottom

-- ---- whole numbers, natural numbers, 2 ^ k, and a fraction written out: `frac (negsuc 2) 4 tt` is −3/4
unfoldable pub whole : ℤ → Fraction
whole z = record { top = z; bottom = 1; above = zero-lt-suc 0 }

abbrev pub nat : ℕ → Fraction
nat n = whole (pos n)

abbrev pub pow2 : ℕ → Fraction
pow2 k = nat (2 ^ k)

abbrev pub frac : (z : ℤ) (d : ℕ) → T (ltb 0 d) → Fraction
frac z d t = record { top = z; bottom = d; above = ltb→lt 0 d t }

-- ---- sum, difference, product
infixl 6 ◌+F◌ ◌-F◌
infixl 7 ◌*F◌ ◌/F◌
unfoldable pub ◌+F◌ : Fraction → Fraction → Fraction
x +F y = record { top = x.top *ℤ below y +ℤ y.top *ℤ below x; bottom = x.bottom * y.bottom; above = mul-pos x.above y.above }

unfoldable pub neg_f : Fraction → Fraction
neg_f x = record { top = neg_ℤ x.top; bottom = x.bottom; above = x.above }

abbrev pub ◌-F◌ : Fraction → Fraction → Fraction
x -F y = x +F neg_f y

unfoldable pub ◌*F◌ : Fraction → Fraction → Fraction
x *F y = record { top = x.top *ℤ y.top; bottom = x.bottom * y.bottom; above = mul-pos x.above y.above }

-- ---- the inverse, of 0 it is 0; the quotient
unfoldable pub turned : (t : ℤ) (b : ℕ) → 0 < b → Fraction
turned (pos zero) b p = nat 0
turned (pos (suc n)) b p = record { top = pos b; bottom = suc n; above = zero-lt-suc n }
turned (negsuc n) b p = record { top = neg_ℤ (pos b); bottom = suc n; above = zero-lt-suc n }

unfoldable pub inv : Fraction → Fraction
unfolding turned
inv x = turned x.top x.bottom x.above

abbrev pub ◌/F◌ : Fraction → Fraction → Fraction
x /F y = x *F inv y

-- ---- the order and equality, by cross products
-- (records, so that a law's fractions can be left out where it is used)
infix 4 ◌≤F◌ ◌<F◌ ◌≈F◌
pub record ◌≤F◌ (x y : Fraction) : Type 0 where
  pub cross : (x.top *ℤ below y) ≤ℤ (y.top *ℤ below x)

pub record ◌<F◌ (x y : Fraction) : Type 0 where
  pub cross : (x.top *ℤ below y) <ℤ (y.top *ℤ below x)

pub record ◌≈F◌ (x y : Fraction) : Type 0 where
  pub cross : x.top *ℤ below y ≡ y.top *ℤ below x

-- ---- the size ∣x∣
unfoldable pub ∣◌∣ : Fraction → Fraction
∣ x ∣ = record { top = pos (nat_abs x.top); bottom = x.bottom; above = x.above }

-- ---- ∣x∣ ≤ b; and ∣x − q∣ ≤ e is `x -F q within e`
infix 4 ◌within◌
pub record ◌within◌ (x b : Fraction) : Type 0 where
  pub lo : neg_f b ≤F x
  pub hi : x ≤F b

-- ---- low ≤ x ≤ high
infix 4 ◌from◌to◌
pub record ◌from◌to◌ (x low high : Fraction) : Type 0 where
  pub lower : low ≤F x
  pub upper : x ≤F high

-- ---- the lesser, the greater and the clamp: what is below low becomes low, then what is above high becomes high
infix 4 ◌≤?◌
unfoldable pub ◌≤?◌ : Fraction → Fraction → Bool
x ≤? y = le_z (x.top *ℤ below y) (y.top *ℤ below x)

unfoldable pub min_f : Fraction → Fraction → Fraction
unfolding ◌≤?◌
min_f x y = cond (x ≤? y) x y

unfoldable pub max_f : Fraction → Fraction → Fraction
unfolding ◌≤?◌
max_f x y = cond (x ≤? y) y x

unfoldable pub clamp_f : (low high x : Fraction) → Fraction
unfolding min_f max_f
clamp_f low high x = min_f (max_f low x) high
