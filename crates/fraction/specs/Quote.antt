-- Reading a term of a ring back as a polynomial in named terms ("variables"): `search` finds the polynomial, so that a proof does not write it.
-- Then an equation is shown by the solver, and x ≤ y by a certificate: a term c, shown to be at least 0, that is a multiple of y − x.
use Rattle.std.specs.Prelude.{◌≡◌, refl, List, [], ◌∷◌, ℕ, suc, pos}
use Rattle.std.proofs.Common.{subst}
use Rattle.fraction.specs.Ring.{CRing, Ex, var, con, ◌+ₚ◌, ◌-ₚ◌, ◌*ₚ◌, len, nth, den, Vanish, norm, solve}

pub record Ordered (A : CRing) : Type 1 where
  pub le : A.R → A.R → Type 0
  pub le_eq : {a b : A.R} → A.eq a b → le a b
  pub le_trans : {a b c : A.R} → le a b → le b c → le a c
  pub from_gap : {a b : A.R} → le (A.of (pos 0)) (A.add b (A.neg a)) → le a b
  pub nn_div : (k : ℕ) {a : A.R} → le (A.of (pos 0)) (A.mul (A.of (pos (suc k))) a) → le (A.of (pos 0)) a

-- x is the polynomial ex in the variables ρ
pub record Quoted (A : CRing) (ρ : List A.R) (x : A.R) : Type 0 where
  pub ex : Ex
  pub is : A.eq (den A ρ ex) x

-- two, three and four terms
pub record Quoted₂ (A : CRing) (ρ : List A.R) (x y : A.R) : Type 0 where
  pub one : Quoted A ρ x
  pub two : Quoted A ρ y

pub record Quoted₃ (A : CRing) (ρ : List A.R) (x y z : A.R) : Type 0 where
  pub one : Quoted A ρ x
  pub two : Quoted A ρ y
  pub three : Quoted A ρ z

pub record Quoted₄ (A : CRing) (ρ : List A.R) (x y z w : A.R) : Type 0 where
  pub one : Quoted A ρ x
  pub two : Quoted A ρ y
  pub three : Quoted A ρ z
  pub four : Quoted A ρ w

-- x stands at a place of ρ
pub record At {R : Type 0} (ρ : List R) (x : R) : Type 0 where
  pub place : ℕ
  pub is : (z : R) → nth z ρ place ≡ x

abbrev pub variable : {A : CRing} {ρ : List A.R} {x : A.R} → At ρ x → Quoted A ρ x
variable {A} {ρ} a = record { ex = var a.place; is = subst (λ (y : A.R). A.eq (nth (A.of (pos 0)) ρ a.place) y) (a.is (A.of (pos 0))) A.rfl }

module _ {R : Type 0} {x : R} {ρ : List R} where
  abbrev pub at0 : At (x ∷ ρ) x
  at0 = record { place = 0; is = λ z. refl }

  abbrev pub at1 : {a : R} → At (a ∷ x ∷ ρ) x
  at1 = record { place = 1; is = λ z. refl }

  abbrev pub at2 : {a b : R} → At (a ∷ b ∷ x ∷ ρ) x
  at2 = record { place = 2; is = λ z. refl }

  abbrev pub at3 : {a b c : R} → At (a ∷ b ∷ c ∷ x ∷ ρ) x
  at3 = record { place = 3; is = λ z. refl }

  abbrev pub at4 : {a b c d : R} → At (a ∷ b ∷ c ∷ d ∷ x ∷ ρ) x
  at4 = record { place = 4; is = λ z. refl }

  abbrev pub at5 : {a b c d e : R} → At (a ∷ b ∷ c ∷ d ∷ e ∷ x ∷ ρ) x
  at5 = record { place = 5; is = λ z. refl }

  abbrev pub at6 : {a b c d e f : R} → At (a ∷ b ∷ c ∷ d ∷ e ∷ f ∷ x ∷ ρ) x
  at6 = record { place = 6; is = λ z. refl }

  abbrev pub at7 : {a b c d e f g : R} → At (a ∷ b ∷ c ∷ d ∷ e ∷ f ∷ g ∷ x ∷ ρ) x
  at7 = record { place = 7; is = λ z. refl }

  abbrev pub at8 : {a b c d e f g h : R} → At (a ∷ b ∷ c ∷ d ∷ e ∷ f ∷ g ∷ h ∷ x ∷ ρ) x
  at8 = record { place = 8; is = λ z. refl }

  abbrev pub at9 : {a b c d e f g h i : R} → At (a ∷ b ∷ c ∷ d ∷ e ∷ f ∷ g ∷ h ∷ i ∷ x ∷ ρ) x
  at9 = record { place = 9; is = λ z. refl }

  abbrev pub at10 : {a b c d e f g h i j : R} → At (a ∷ b ∷ c ∷ d ∷ e ∷ f ∷ g ∷ h ∷ i ∷ j ∷ x ∷ ρ) x
  at10 = record { place = 10; is = λ z. refl }

  abbrev pub at11 : {a b c d e f g h i j k : R} → At (a ∷ b ∷ c ∷ d ∷ e ∷ f ∷ g ∷ h ∷ i ∷ j ∷ k ∷ x ∷ ρ) x
  at11 = record { place = 11; is = λ z. refl }

  abbrev pub at12 : {a b c d e f g h i j k l : R} → At (a ∷ b ∷ c ∷ d ∷ e ∷ f ∷ g ∷ h ∷ i ∷ j ∷ k ∷ l ∷ x ∷ ρ) x
  at12 = record { place = 12; is = λ z. refl }

  abbrev pub at13 : {a b c d e f g h i j k l m : R} → At (a ∷ b ∷ c ∷ d ∷ e ∷ f ∷ g ∷ h ∷ i ∷ j ∷ k ∷ l ∷ m ∷ x ∷ ρ) x
  at13 = record { place = 13; is = λ z. refl }

  abbrev pub at14 : {a b c d e f g h i j k l m n : R} → At (a ∷ b ∷ c ∷ d ∷ e ∷ f ∷ g ∷ h ∷ i ∷ j ∷ k ∷ l ∷ m ∷ n ∷ x ∷ ρ) x
  at14 = record { place = 14; is = λ z. refl }

  abbrev pub at15 : {a b c d e f g h i j k l m n o : R} → At (a ∷ b ∷ c ∷ d ∷ e ∷ f ∷ g ∷ h ∷ i ∷ j ∷ k ∷ l ∷ m ∷ n ∷ o ∷ x ∷ ρ) x
  at15 = record { place = 15; is = λ z. refl }

-- (the variables stand first in each list of rules: a number or a product may itself be a variable)
pub ruleset variables = (at0, at1, at2, at3, at4, at5, at6, at7, at8, at9, at10, at11, at12, at13, at14, at15)

module _ (A : CRing) where
  open A use {R, eq, add, mul, neg, of, rfl, symm, trans, add_cong, mul_cong, neg_cong, add-zero}

  -- x ≈ y by the solver
  pub solved : (ρ : List R) {x y : R} (s : Quoted₂ A ρ x y) → Vanish (len ρ) (norm (len ρ) (s.one.ex -ₚ s.two.ex)) → eq x y
  solved ρ s t = trans (symm s.one.is) (trans (solve A ρ s.one.ex s.two.ex t) s.two.is)

  -- the test that C is (k + 1) · (Q − P)
  abbrev pub Fits : ℕ → ℕ → Ex → Ex → Ex → Type 0
  Fits n k C P Q = Vanish n (norm n (C -ₚ con (pos (suc k)) *ₚ (Q -ₚ P)))

  fits : (ρ : List R) (k : ℕ) {c x y : R} (s : Quoted₃ A ρ c x y) → Fits (len ρ) k s.one.ex s.two.ex s.three.ex → eq c (mul (of (pos (suc k))) (add y (neg x)))
  fits ρ k s t = trans (symm s.one.is) (trans (solve A ρ s.one.ex (con (pos (suc k)) *ₚ (s.three.ex -ₚ s.two.ex)) t)
      (mul_cong rfl (add_cong s.three.is (neg_cong s.two.is))))

  -- x ≤ y by a certificate
  pub certified : (O : Ordered A) (ρ : List R) (k : ℕ) {c x y : R} → O.le (of (pos 0)) c → (s : Quoted₃ A ρ c x y) → Fits (len ρ) k s.one.ex s.two.ex s.three.ex → O.le x y
  certified O ρ k h s t = O.from_gap (O.nn_div k (O.le_trans h (O.le_eq (fits ρ k s t))))

  -- x ≈ y from equations: y − x is a sum of multiples of what they say is 0
  pub multiple : (e : R) {x y : R} → eq x y → eq (of (pos 0)) (mul e (add y (neg x)))
  multiple e {x} {y} p = trans (solve A (e ∷ x ∷ []) (con (pos 0)) (var 0 *ₚ (var 1 -ₚ var 1)) tt) (mul_cong rfl (add_cong p rfl))

  pub both : {x y : R} → eq (of (pos 0)) x → eq (of (pos 0)) y → eq (of (pos 0)) (add x y)
  both p q = trans (symm (add-zero (of (pos 0)))) (add_cong p q)

  abbrev pub Balances : ℕ → Ex → Ex → Ex → Type 0
  Balances n C P Q = Vanish n (norm n (P +ₚ C -ₚ Q))

  pub balanced : (ρ : List R) {c x y : R} → eq (of (pos 0)) c → (s : Quoted₃ A ρ c x y) → Balances (len ρ) s.one.ex s.two.ex s.three.ex → eq x y
  balanced ρ {c} {x} {y} h s t = trans (symm (add-zero x)) (trans (add_cong rfl h)
      (trans (add_cong (symm s.two.is) (symm s.one.is)) (trans (solve A ρ (s.two.ex +ₚ s.one.ex) s.three.ex t) s.three.is)))
