-- One line for an identity or an inequality of fractions; specs/Lib.antt says how it is written.
use Rattle.std.specs.Prelude.{List, [], ◌∷◌, ℕ, ◌+◌, ◌*◌, T, leb, ℤ, pos, negsuc}
use Rattle.std.proofs.Common.{inl, inr}
use Rattle.fraction.specs.Ring.{con, ◌+ₚ◌, ◌-ₚ◌, ◌*ₚ◌, negₚ, len, Vanish, norm}
use Rattle.fraction.specs.Quote.{At, Quoted, Quoted₂, Quoted₃, Quoted₄, variable, variables, solved, Fits, certified, Balances, balanced, multiple, both}
use Rattle.fraction.specs.Fraction.{Fraction, whole, nat, ◌+F◌, neg_f, ◌-F◌, ◌*F◌, ◌≈F◌, ◌≤F◌, ◌within◌}
use Rattle.fraction.proofs.Field.{Fring, Ford, ≈F-refl, ≈F-sym, ≈F-trans, +F-cong, *F-cong, neg_f-cong, whole-+, whole-*, ≤F-of-≈F, to_gap, nn-add_f, nn-mul_f, nn-nat_f, le_or_lt, le_of_lt}

-- ---- reading a fraction's expression back
-- (a number that is written out, for which this test computes; any other is a variable, or a sum or product of such)
abbrev pub Written : ℤ → Type 0
Written (pos n) = T (leb n n)
Written (negsuc n) = T (leb n n)

module _ {ρ : List Fraction} where
  abbrev pub q_var : {x : Fraction} → At ρ x → Quoted Fring ρ x
  q_var a = variable {A = Fring} a

  abbrev pub q_add : {x y : Fraction} → Quoted Fring ρ x → Quoted Fring ρ y → Quoted Fring ρ (x +F y)
  q_add p q = record { ex = p.ex +ₚ q.ex; is = +F-cong p.is q.is }

  abbrev pub q_mul : {x y : Fraction} → Quoted Fring ρ x → Quoted Fring ρ y → Quoted Fring ρ (x *F y)
  q_mul p q = record { ex = p.ex *ₚ q.ex; is = *F-cong p.is q.is }

  abbrev pub q_neg : {x : Fraction} → Quoted Fring ρ x → Quoted Fring ρ (neg_f x)
  q_neg p = record { ex = negₚ p.ex; is = neg_f-cong p.is }

  abbrev pub q_whole : (z : ℤ) → Written z → Quoted Fring ρ (whole z)
  q_whole z t = record { ex = con z; is = ≈F-refl }

  -- sums and products of natural numbers
  abbrev pub q-nat-+ : (a b : ℕ) → Quoted Fring ρ (nat a) → Quoted Fring ρ (nat b) → Quoted Fring ρ (nat (a + b))
  q-nat-+ a b p q = record { ex = p.ex +ₚ q.ex; is = ≈F-trans (+F-cong p.is q.is) (≈F-sym (whole-+ (pos a) (pos b))) }

  abbrev pub q-nat-* : (a b : ℕ) → Quoted Fring ρ (nat a) → Quoted Fring ρ (nat b) → Quoted Fring ρ (nat (a * b))
  q-nat-* a b p q = record { ex = p.ex *ₚ q.ex; is = ≈F-trans (*F-cong p.is q.is) (≈F-sym (whole-* (pos a) (pos b))) }

  abbrev pub q₂ : {x y : Fraction} → Quoted Fring ρ x → Quoted Fring ρ y → Quoted₂ Fring ρ x y
  q₂ p q = record { one = p; two = q }

  abbrev pub q₃ : {x y z : Fraction} → Quoted Fring ρ x → Quoted Fring ρ y → Quoted Fring ρ z → Quoted₃ Fring ρ x y z
  q₃ p q r = record { one = p; two = q; three = r }

  abbrev pub q₄ : {x y z w : Fraction} → Quoted Fring ρ x → Quoted Fring ρ y → Quoted Fring ρ z → Quoted Fring ρ w → Quoted₄ Fring ρ x y z w
  q₄ p q r s = record { one = p; two = q; three = r; four = s }

pub ruleset quote = (q₂, q₃, q₄, q_var, variables, q_add, q_mul, q_neg, q-nat-+, q-nat-*, q_whole, tt)

-- ---- an identity
pub ring : (ρ : List Fraction) {x y : Fraction} (s : Quoted₂ Fring ρ x y) → Vanish (len ρ) (norm (len ρ) (s.one.ex -ₚ s.two.ex)) → x ≈F y
ring ρ s t = solved Fring ρ s t

-- ---- what a certificate is made of: each is shown to be at least 0
infixl 6 ◌⊞◌
infixl 7 ◌⊠◌
pub up : {x y : Fraction} → x ≤F y → nat 0 ≤F y -F x
up h = to_gap h

pub hi : {x b : Fraction} → x within b → nat 0 ≤F b -F x
hi h = to_gap h.hi

pub lo : {x b : Fraction} → x within b → nat 0 ≤F x -F neg_f b
lo h = to_gap h.lo

pub num : (n : ℕ) → nat 0 ≤F nat n
num n = nn-nat_f n

pub ◌⊞◌ : {x y : Fraction} → nat 0 ≤F x → nat 0 ≤F y → nat 0 ≤F x +F y
p ⊞ q = nn-add_f p q

pub ◌⊠◌ : {x y : Fraction} → nat 0 ≤F x → nat 0 ≤F y → nat 0 ≤F x *F y
p ⊠ q = nn-mul_f p q

-- ---- x ≤ y: (k + 1) · (y − x) is the certificate
pub le_by : (ρ : List Fraction) (k : ℕ) {c x y : Fraction} → nat 0 ≤F c → (s : Quoted₃ Fring ρ c x y) → Fits Fring (len ρ) k s.one.ex s.two.ex s.three.ex → x ≤F y
le_by ρ k h s t = certified Fring Ford ρ k h s t

-- a square
pub sq : (x : Fraction) → nat 0 ≤F x *F x
sq x = elim (le_or_lt (nat 0) x) [
  | inl h ↦ h ⊠ h
  | inr h ↦ le_by (x ∷ []) 0 (up (le_of_lt h) ⊠ up (le_of_lt h)) (search quote depth 24) tt
]

-- ---- ∣x∣ ≤ b: by two certificates, of b − x and of x + b
pub within_by : (ρ : List Fraction) (k : ℕ) {c d x b : Fraction} → nat 0 ≤F c → nat 0 ≤F d → (s : Quoted₄ Fring ρ c d x b)
    → Fits Fring (len ρ) k s.one.ex s.three.ex s.four.ex → Fits Fring (len ρ) k s.two.ex (negₚ s.four.ex) s.three.ex → x within b
within_by ρ k h l s t u = record {
  lo = le_by ρ k l (record { one = s.two; two = record { ex = negₚ s.four.ex; is = neg_f-cong s.four.is }; three = s.three }) u;
  hi = le_by ρ k h (record { one = s.one; two = s.three; three = s.four }) t;
}

-- ---- x ≈ y from equations: y − x is a sum of multiples e · (b − a) of them; `eqn` puts such a sum into a certificate
infixl 6 ◌&◌
infixl 7 ◌·◌
pub ◌·◌ : (e : Fraction) {a b : Fraction} → a ≈F b → nat 0 ≈F e *F (b -F a)
e · h = multiple Fring e h

pub ◌&◌ : {x y : Fraction} → nat 0 ≈F x → nat 0 ≈F y → nat 0 ≈F x +F y
p & q = both Fring p q

pub eq_by : (ρ : List Fraction) {c x y : Fraction} → nat 0 ≈F c → (s : Quoted₃ Fring ρ c x y) → Balances Fring (len ρ) s.one.ex s.two.ex s.three.ex → x ≈F y
eq_by ρ h s t = balanced Fring ρ h s t

pub eqn : {c : Fraction} → nat 0 ≈F c → nat 0 ≤F c
eqn h = ≤F-of-≈F h
