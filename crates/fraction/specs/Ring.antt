-- A commutative ring up to an equivalence, and a solver: an equation between two polynomials holds if the normal form of their difference is 0.
use mathlib.Core.List.{List, [], ◌∷◌}
use Rattle.std.specs.Prelude.{Bool, true, false, ◌&&◌, T, ℤ, pos, negsuc, ◌+ℤ◌, ◌*ℤ◌, neg_ℤ}
use Prim.Native.Nat.{ℕ, zero, suc}

pub record CRing : Type 1 where
  pub R : Type 0
  pub eq : R → R → Type 0
  pub add : R → R → R
  pub mul : R → R → R
  pub neg : R → R
  pub of : ℤ → R
  pub rfl : {a : R} → eq a a
  pub symm : {a b : R} → eq a b → eq b a
  pub trans : {a b c : R} → eq a b → eq b c → eq a c
  pub add_cong : {a b c d : R} → eq a b → eq c d → eq (add a c) (add b d)
  pub mul_cong : {a b c d : R} → eq a b → eq c d → eq (mul a c) (mul b d)
  pub neg_cong : {a b : R} → eq a b → eq (neg a) (neg b)
  pub add_assoc : (a b c : R) → eq (add (add a b) c) (add a (add b c))
  pub add_comm : (a b : R) → eq (add a b) (add b a)
  pub add-zero : (a : R) → eq (add a (of (pos 0))) a
  pub add_neg : (a : R) → eq (add a (neg a)) (of (pos 0))
  pub mul_assoc : (a b c : R) → eq (mul (mul a b) c) (mul a (mul b c))
  pub mul_comm : (a b : R) → eq (mul a b) (mul b a)
  pub mul-one : (a : R) → eq (mul a (of (pos 1))) a
  pub mul-add : (a b c : R) → eq (mul a (add b c)) (add (mul a b) (mul a c))
  pub of_add : (a b : ℤ) → eq (of (a +ℤ b)) (add (of a) (of b))
  pub of_mul : (a b : ℤ) → eq (of (a *ℤ b)) (mul (of a) (of b))
  pub of_neg : (a : ℤ) → eq (of (neg_ℤ a)) (neg (of a))

-- ---- polynomials as they are written
infixl 6 ◌+ₚ◌
infixl 6 ◌-ₚ◌
infixl 7 ◌*ₚ◌
pub data Ex : Type 0 where
  var : ℕ → Ex
  con : ℤ → Ex
  ◌+ₚ◌ : Ex → Ex → Ex
  ◌-ₚ◌ : Ex → Ex → Ex
  ◌*ₚ◌ : Ex → Ex → Ex
  negₚ : Ex → Ex

-- ---- normal forms: in n variables, the list of the coefficients by the first variable's power, each in the other n − 1 variables
abbrev pub Poly : ℕ → Type 0
Poly zero = ℤ
Poly (suc n) = List (Poly n)

abbrev pub zip : {A : Type 0} → (A → A → A) → List A → List A → List A
zip f [] q = q
zip f (a ∷ p) [] = a ∷ p
zip f (a ∷ p) (b ∷ q) = f a b ∷ zip f p q

abbrev pub each : {A : Type 0} → (A → A) → List A → List A
each f [] = []
each f (a ∷ p) = f a ∷ each f p

abbrev pub conv : {A : Type 0} → (A → A → A) → (A → A → A) → A → List A → List A → List A
conv f g z [] q = []
conv f g z (a ∷ p) q = zip f (each (g a) q) (z ∷ conv f g z p q)

abbrev pub all : {A : Type 0} → (A → Bool) → List A → Bool
all f [] = true
all f (a ∷ p) = f a && all f p

abbrev pub padd : (n : ℕ) → Poly n → Poly n → Poly n
padd zero a b = a +ℤ b
padd (suc n) p q = zip (padd n) p q

abbrev pub pneg : (n : ℕ) → Poly n → Poly n
pneg zero a = neg_ℤ a
pneg (suc n) p = each (pneg n) p

abbrev pub pzero : (n : ℕ) → Poly n
pzero zero = pos 0
pzero (suc n) = []

abbrev pub pmul : (n : ℕ) → Poly n → Poly n → Poly n
pmul zero a b = a *ℤ b
pmul (suc n) p q = conv (padd n) (pmul n) (pzero n) p q

abbrev pub pcon : (n : ℕ) → ℤ → Poly n
pcon zero c = c
pcon (suc n) c = pcon n c ∷ []

abbrev pub pvar : (n : ℕ) → ℕ → Poly n
pvar zero i = pos 0
pvar (suc n) zero = pzero n ∷ pcon n (pos 1) ∷ []
pvar (suc n) (suc i) = pvar n i ∷ []

abbrev pub isz : ℤ → Bool
isz (pos zero) = true
isz (pos (suc n)) = false
isz (negsuc n) = false

abbrev pub pisz : (n : ℕ) → Poly n → Bool
pisz zero a = isz a
pisz (suc n) p = all (pisz n) p

-- ---- the test that a normal form is 0. It passes by `tt`; where it fails, the refusal shows the monomials that are left, each with its powers:
-- `left (term c (p ∷ q ∷ [])) ..` is c times the first variable to the p times the second to the q
pub data Term : Type 0 where
  term : ℤ → List ℕ → Term

abbrev pub power : ℕ → List Term → List Term → List Term
power i [] us = us
power i (term c m ∷ ts) us = term c (i ∷ m) ∷ power i ts us

abbrev pub terms₀ : ℤ → List Term
terms₀ (pos zero) = []
terms₀ (pos (suc n)) = term (pos (suc n)) [] ∷ []
terms₀ (negsuc n) = term (negsuc n) [] ∷ []

abbrev pub powers : {A : Type 0} → (A → List Term) → ℕ → List A → List Term
powers f i [] = []
powers f i (a ∷ p) = power i (f a) (powers f (suc i) p)

abbrev pub terms : (n : ℕ) → Poly n → List Term
terms zero a = terms₀ a
terms (suc n) p = powers (terms n) 0 p

pub data Left (ts : List Term) : Type 0 where

abbrev pub Gone : Bool → List Term → Type 0
Gone true ts = Unit {0}
Gone false ts = Left ts

gone : (b : Bool) (ts : List Term) → Gone b ts → T b
gone true ts g = tt
gone false ts g = elim g [ ]

abbrev pub Vanish : (n : ℕ) → Poly n → Type 0
Vanish n p = Gone (pisz n p) (terms n p)

abbrev pub norm : (n : ℕ) → Ex → Poly n
norm n (var i) = pvar n i
norm n (con c) = pcon n c
norm n (a +ₚ b) = padd n (norm n a) (norm n b)
norm n (a -ₚ b) = padd n (norm n a) (pneg n (norm n b))
norm n (a *ₚ b) = pmul n (norm n a) (norm n b)
norm n (negₚ a) = pneg n (norm n a)

abbrev pub len : {A : Type 0} → List A → ℕ
len [] = zero
len (a ∷ l) = suc (len l)

-- the variable i, and z where there is none
abbrev pub nth : {A : Type 0} → A → List A → ℕ → A
nth z [] i = z
nth z (x ∷ ρ) zero = x
nth z (x ∷ ρ) (suc i) = nth z ρ i

and_l : (a b : Bool) → T (a && b) → T a
and_l true b t = tt
and_l false b t = t

and_r : (a b : Bool) → T (a && b) → T b
and_r true b t = t
and_r false b t = absurd t

module _ (A : CRing) where
  open A use {R, eq, add, mul, neg, of, rfl, symm, trans, add_cong, mul_cong, neg_cong, add_assoc, add_comm, add-zero, add_neg, mul_assoc, mul_comm, mul-one, mul-add, of_add, of_mul, of_neg}

  abbrev pub den : List R → Ex → R
  den ρ (var i) = nth (of (pos 0)) ρ i
  den ρ (con c) = of c
  den ρ (a +ₚ b) = add (den ρ a) (den ρ b)
  den ρ (a -ₚ b) = add (den ρ a) (neg (den ρ b))
  den ρ (a *ₚ b) = mul (den ρ a) (den ρ b)
  den ρ (negₚ a) = neg (den ρ a)

  -- small laws
  0# : R
  0# = of (pos 0)

  zero-add : (a : R) → eq (add 0# a) a
  unfolding 0#
  zero-add a = trans (add_comm _ _) (add-zero a)

  swap4 : (a b c d : R) → eq (add (add a b) (add c d)) (add (add a c) (add b d))
  swap4 a b c d = trans (add_assoc a b (add c d)) (trans (add_cong rfl (trans (symm (add_assoc b c d)) (trans (add_cong (add_comm b c) rfl) (add_assoc c b d)))) (symm (add_assoc a c (add b d))))

  -- x + y ≈ 0 gives y ≈ −x
  neg_of : (x y : R) → eq (add x y) 0# → eq y (neg x)
  unfolding 0#
  neg_of x y h = trans (symm (add-zero y)) (trans (add_cong rfl (symm (add_neg x))) (trans (symm (add_assoc y x (neg x))) (trans (add_cong (trans (add_comm y x) h) rfl) (zero-add (neg x)))))

  -- x + x ≈ x gives x ≈ 0
  idem : (x : R) → eq (add x x) x → eq x 0#
  unfolding 0#
  idem x h = trans (symm (add-zero x)) (trans (add_cong rfl (symm (add_neg x))) (trans (symm (add_assoc x x (neg x))) (trans (add_cong h rfl) (add_neg x))))

  mul_zero : (a : R) → eq (mul a 0#) 0#
  unfolding 0#
  mul_zero a = idem (mul a 0#) (trans (symm (mul-add a 0# 0#)) (mul_cong rfl (add-zero 0#)))

  zero-mul : (a : R) → eq (mul 0# a) 0#
  zero-mul a = trans (mul_comm _ _) (mul_zero a)

  neg_add : (a b : R) → eq (add (neg a) (neg b)) (neg (add a b))
  unfolding 0#
  neg_add a b = neg_of (add a b) (add (neg a) (neg b)) (trans (swap4 a b (neg a) (neg b)) (trans (add_cong (add_neg a) (add_neg b)) (add-zero _)))

  mul_neg : (a b : R) → eq (mul a (neg b)) (neg (mul a b))
  unfolding 0#
  mul_neg a b = neg_of (mul a b) (mul a (neg b)) (trans (symm (mul-add a b (neg b))) (trans (mul_cong rfl (add_neg b)) (mul_zero a)))

  neg_zero : eq (neg 0#) 0#
  unfolding 0#
  neg_zero = symm (neg_of 0# 0# (add-zero 0#))

  add-mul : (a b c : R) → eq (mul (add a b) c) (add (mul a c) (mul b c))
  add-mul a b c = trans (mul_comm _ _) (trans (mul-add c a b) (add_cong (mul_comm _ _) (mul_comm _ _)))

  left_comm : (a b c : R) → eq (mul a (mul b c)) (mul b (mul a c))
  left_comm a b c = trans (symm (mul_assoc a b c)) (trans (mul_cong (mul_comm a b) rfl) (mul_assoc b a c))

  -- a list of coefficients at x, by Horner's rule
  abbrev hor : {B : Type 0} → (B → R) → R → List B → R
  hor f x [] = of (pos 0)
  hor f x (a ∷ p) = add (f a) (mul x (hor f x p))

  hor_zip : {B : Type 0} (f : B → R) (g : B → B → B) (h : (a b : B) → eq (f (g a b)) (add (f a) (f b))) (x : R) (p q : List B) → eq (hor f x (zip g p q)) (add (hor f x p) (hor f x q))
  unfolding 0#
  hor_zip f g h x [] q = symm (zero-add _)
  hor_zip f g h x (a ∷ p) [] = symm (add-zero _)
  hor_zip f g h x (a ∷ p) (b ∷ q) = trans (add_cong (h a b) (trans (mul_cong rfl (hor_zip f g h x p q)) (mul-add x _ _))) (swap4 _ _ _ _)

  hor_neg : {B : Type 0} (f : B → R) (g : B → B) (h : (a : B) → eq (f (g a)) (neg (f a))) (x : R) (p : List B) → eq (hor f x (each g p)) (neg (hor f x p))
  unfolding 0#
  hor_neg f g h x [] = symm neg_zero
  hor_neg f g h x (a ∷ p) = trans (add_cong (h a) (trans (mul_cong rfl (hor_neg f g h x p)) (mul_neg x _))) (neg_add _ _)

  hor_scale : {B : Type 0} (f : B → R) (g : B → B) (c : R) (h : (a : B) → eq (f (g a)) (mul c (f a))) (x : R) (p : List B) → eq (hor f x (each g p)) (mul c (hor f x p))
  unfolding 0#
  hor_scale f g c h x [] = symm (mul_zero c)
  hor_scale f g c h x (a ∷ p) = trans (add_cong (h a) (trans (mul_cong rfl (hor_scale f g c h x p)) (left_comm x c _))) (symm (mul-add c _ _))

  hor_conv : {B : Type 0} (f : B → R) (g m : B → B → B) (z : B) (hg : (a b : B) → eq (f (g a b)) (add (f a) (f b))) (hm : (a b : B) → eq (f (m a b)) (mul (f a) (f b))) (hz : eq (f z) 0#)
      (x : R) (p q : List B) → eq (hor f x (conv g m z p q)) (mul (hor f x p) (hor f x q))
  unfolding 0#
  hor_conv f g m z hg hm hz x [] q = symm (zero-mul _)
  hor_conv f g m z hg hm hz x (a ∷ p) q = trans (hor_zip f g hg x (each (m a) q) (z ∷ conv g m z p q))
      (trans (add_cong (hor_scale f (m a) (f a) (hm a) x q) (trans (add_cong hz (trans (mul_cong rfl (hor_conv f g m z hg hm hz x p q)) (symm (mul_assoc x _ _)))) (zero-add _))) (symm (add-mul _ _ _)))

  hor_all : {B : Type 0} (f : B → R) (t : B → Bool) (h : (a : B) → T (t a) → eq (f a) 0#) (x : R) (p : List B) → T (all t p) → eq (hor f x p) 0#
  unfolding 0#
  hor_all f t h x [] k = rfl
  hor_all f t h x (a ∷ p) k = trans (add_cong (h a (and_l (t a) (all t p) k)) (trans (mul_cong rfl (hor_all f t h x p (and_r (t a) (all t p) k))) (mul_zero x))) (add-zero _)

  abbrev ev : (ρ : List R) → Poly (len ρ) → R
  ev [] c = of c
  ev (x ∷ ρ) p = hor (ev ρ) x p

  ev_add : (ρ : List R) (p q : Poly (len ρ)) → eq (ev ρ (padd (len ρ) p q)) (add (ev ρ p) (ev ρ q))
  ev_add [] p q = of_add p q
  ev_add (x ∷ ρ) p q = hor_zip (ev ρ) (padd (len ρ)) (ev_add ρ) x p q

  ev_neg : (ρ : List R) (p : Poly (len ρ)) → eq (ev ρ (pneg (len ρ) p)) (neg (ev ρ p))
  ev_neg [] p = of_neg p
  ev_neg (x ∷ ρ) p = hor_neg (ev ρ) (pneg (len ρ)) (ev_neg ρ) x p

  ev_zero : (ρ : List R) → eq (ev ρ (pzero (len ρ))) 0#
  unfolding 0#
  ev_zero [] = rfl
  ev_zero (x ∷ ρ) = rfl

  ev_mul : (ρ : List R) (p q : Poly (len ρ)) → eq (ev ρ (pmul (len ρ) p q)) (mul (ev ρ p) (ev ρ q))
  ev_mul [] p q = of_mul p q
  ev_mul (x ∷ ρ) p q = hor_conv (ev ρ) (padd (len ρ)) (pmul (len ρ)) (pzero (len ρ)) (ev_add ρ) (ev_mul ρ) (ev_zero ρ) x p q

  only : (x a : R) → eq (add a (mul x 0#)) a
  unfolding 0#
  only x a = trans (add_cong rfl (mul_zero x)) (add-zero a)

  ev_con : (ρ : List R) (c : ℤ) → eq (ev ρ (pcon (len ρ) c)) (of c)
  unfolding 0#
  ev_con [] c = rfl
  ev_con (x ∷ ρ) c = trans (only x _) (ev_con ρ c)

  ev_var : (ρ : List R) (i : ℕ) → eq (ev ρ (pvar (len ρ) i)) (nth (of (pos 0)) ρ i)
  unfolding 0#
  ev_var [] i = rfl
  ev_var (x ∷ ρ) zero = trans (add_cong (ev_zero ρ) (mul_cong rfl (trans (only x _) (ev_con ρ (pos 1))))) (trans (zero-add _) (mul-one x))
  ev_var (x ∷ ρ) (suc i) = trans (only x _) (ev_var ρ i)

  ev_isz : (ρ : List R) (p : Poly (len ρ)) → T (pisz (len ρ) p) → eq (ev ρ p) 0#
  unfolding 0#
  ev_isz [] (pos zero) t = rfl
  ev_isz [] (pos (suc n)) t = absurd t
  ev_isz [] (negsuc n) t = absurd t
  ev_isz (x ∷ ρ) p t = hor_all (ev ρ) (pisz (len ρ)) (ev_isz ρ) x p t

  sound : (ρ : List R) (e : Ex) → eq (den ρ e) (ev ρ (norm (len ρ) e))
  sound ρ (var i) = symm (ev_var ρ i)
  sound ρ (con c) = symm (ev_con ρ c)
  sound ρ (a +ₚ b) = trans (add_cong (sound ρ a) (sound ρ b)) (symm (ev_add ρ (norm (len ρ) a) (norm (len ρ) b)))
  sound ρ (a -ₚ b) = trans (add_cong (sound ρ a) (trans (neg_cong (sound ρ b)) (symm (ev_neg ρ (norm (len ρ) b))))) (symm (ev_add ρ (norm (len ρ) a) (pneg (len ρ) (norm (len ρ) b))))
  sound ρ (a *ₚ b) = trans (mul_cong (sound ρ a) (sound ρ b)) (symm (ev_mul ρ (norm (len ρ) a) (norm (len ρ) b)))
  sound ρ (negₚ a) = trans (neg_cong (sound ρ a)) (symm (ev_neg ρ (norm (len ρ) a)))

  sub_zero : (a b : R) → eq (add a (neg b)) 0# → eq a b
  unfolding 0#
  sub_zero a b h = trans (symm (add-zero a)) (trans (add_cong rfl (trans (symm (add_neg b)) (add_comm b (neg b)))) (trans (symm (add_assoc a (neg b) b)) (trans (add_cong h rfl) (zero-add b))))

  vanish : (ρ : List R) (p : Poly (len ρ)) → Vanish (len ρ) p → eq (ev ρ p) 0#
  vanish ρ p g = ev_isz ρ p (gone (pisz (len ρ) p) (terms (len ρ) p) g)

  -- the solver
  pub solve : (ρ : List R) (e₁ e₂ : Ex) → Vanish (len ρ) (norm (len ρ) (e₁ -ₚ e₂)) → eq (den ρ e₁) (den ρ e₂)
  solve ρ e₁ e₂ t = sub_zero (den ρ e₁) (den ρ e₂) (trans (sound ρ (e₁ -ₚ e₂)) (vanish ρ (norm (len ρ) (e₁ -ₚ e₂)) t))
