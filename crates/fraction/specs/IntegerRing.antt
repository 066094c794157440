-- The whole numbers as an ordered ring: equations by `zring`, x ≤ y by `zle_by`.
use Rattle.std.specs.Prelude.{◌≡◌, refl, List, ℕ, suc, ◌*◌, ◌<◌, ℤ, pos, ◌+ℤ◌, ◌*ℤ◌, neg_ℤ, ◌≤ℤ◌}
use Rattle.std.proofs.Common.{sym, ◌∙◌, ap, ap₂, subst, zero-lt-suc, arith}
use Rattle.std.proofs.Math.IntN.{one, +ℤ_assoc, +ℤ_comm, +ℤ_idr, +ℤ_invr, *ℤ_comm, *ℤ-one}
use Rattle.std.specs.Int.Signed.{≤ℤ_refl}
use Rattle.fraction.specs.Integer.{pos-≤, *ℤ-assoc, *ℤ-+ℤ, ≤ℤ-trans, ≤ℤ-antisym, ≤ℤ-cancel, sub_nn, nn_sub, nn_add, nn_mul, nn_div}
use Rattle.fraction.specs.Ring.{CRing, con, ◌+ₚ◌, ◌-ₚ◌, ◌*ₚ◌, negₚ, len, Vanish, norm}
use Rattle.fraction.specs.Quote.{Ordered, At, variable, Quoted, Quoted₂, Quoted₃, variables, solved, certified, Fits, balanced, Balances, multiple, both}

pub *ℤ-pos1 : (m : ℤ) → m *ℤ pos 1 ≡ m
unfolding one
*ℤ-pos1 m = *ℤ-one m

abbrev pub Zring : CRing
Zring = record {
  R = ℤ;
  eq = λ a b. a ≡ b;
  add = ◌+ℤ◌;
  mul = ◌*ℤ◌;
  neg = neg_ℤ;
  of = λ a. a;
  rfl = refl;
  symm = λ p. sym p;
  trans = λ p q. p ∙ q;
  add_cong = λ p q. ap₂ ◌+ℤ◌ p q;
  mul_cong = λ p q. ap₂ ◌*ℤ◌ p q;
  neg_cong = λ p. ap neg_ℤ p;
  add_assoc = +ℤ_assoc;
  add_comm = +ℤ_comm;
  add-zero = +ℤ_idr;
  add_neg = +ℤ_invr;
  mul_assoc = *ℤ-assoc;
  mul_comm = *ℤ_comm;
  mul-one = *ℤ-pos1;
  mul-add = *ℤ-+ℤ;
  of_add = λ a b. refl;
  of_mul = λ a b. refl;
  of_neg = λ a. refl;
}

pub ≤ℤ-of-≡ : {a b : ℤ} → a ≡ b → a ≤ℤ b
≤ℤ-of-≡ {a} {b} p = subst (λ z. a ≤ℤ z) p (≤ℤ_refl a)

abbrev pub Zord : Ordered Zring
Zord = record {
  le = ◌≤ℤ◌;
  le_eq = λ p. ≤ℤ-of-≡ p;
  le_trans = λ {a} {b} {c} p q. ≤ℤ-trans a b c p q;
  from_gap = λ {a} {b} p. sub_nn a b p;
  nn_div = λ k {a} p. nn_div (suc k) a (zero-lt-suc k) p;
}

-- ---- reading back
module _ {ρ : List ℤ} where
  abbrev pub z_var : {x : ℤ} → At ρ x → Quoted Zring ρ x
  z_var a = variable {A = Zring} a

  abbrev pub z_add : {x y : ℤ} → Quoted Zring ρ x → Quoted Zring ρ y → Quoted Zring ρ (x +ℤ y)
  z_add p q = record { ex = p.ex +ₚ q.ex; is = ap₂ ◌+ℤ◌ p.is q.is }

  abbrev pub z_mul : {x y : ℤ} → Quoted Zring ρ x → Quoted Zring ρ y → Quoted Zring ρ (x *ℤ y)
  z_mul p q = record { ex = p.ex *ₚ q.ex; is = ap₂ ◌*ℤ◌ p.is q.is }

  -- a product of naturals, as it stands below a fraction
  abbrev pub z_nat : {a b : ℕ} → Quoted Zring ρ (pos a) → Quoted Zring ρ (pos b) → Quoted Zring ρ (pos (a * b))
  z_nat p q = record { ex = p.ex *ₚ q.ex; is = ap₂ ◌*ℤ◌ p.is q.is }

  abbrev pub z_neg : {x : ℤ} → Quoted Zring ρ x → Quoted Zring ρ (neg_ℤ x)
  z_neg p = record { ex = negₚ p.ex; is = ap neg_ℤ p.is }

  abbrev pub z_zero : Quoted Zring ρ (pos 0)
  z_zero = record { ex = con (pos 0); is = refl }

  abbrev pub z_one : Quoted Zring ρ (pos 1)
  z_one = record { ex = con (pos 1); is = refl }

pub ruleset zquote = (z_var, variables, z_add, z_mul, z_neg, z_nat, z_zero, z_one)

pub zring : (ρ : List ℤ) {x y : ℤ} (s : Quoted₂ Zring ρ x y) → Vanish (len ρ) (norm (len ρ) (s.one.ex -ₚ s.two.ex)) → x ≡ y
zring ρ s t = solved Zring ρ s t

-- (a record, so that the certificate's value is found)
pub record Nonneg (x : ℤ) : Type 0 where
  pub holds : pos 0 ≤ℤ x

pub up : (x y : ℤ) → x ≤ℤ y → Nonneg (y +ℤ neg_ℤ x)
up x y h = record { holds = nn_sub x y h }

pub natural : (n : ℕ) → Nonneg (pos n)
natural n = record { holds = pos-≤ (omega arith) }

infixl 6 ◌⊞◌
infixl 7 ◌⊠◌
pub ◌⊞◌ : {x y : ℤ} → Nonneg x → Nonneg y → Nonneg (x +ℤ y)
◌⊞◌ {x} {y} h k = record { holds = nn_add x y h.holds k.holds }

pub ◌⊠◌ : {x y : ℤ} → Nonneg x → Nonneg y → Nonneg (x *ℤ y)
◌⊠◌ {x} {y} h k = record { holds = nn_mul x y h.holds k.holds }

pub zle_by : (ρ : List ℤ) {c : ℤ} → Nonneg c → (x y : ℤ) (s : Quoted₃ Zring ρ c x y) → Fits Zring (len ρ) 0 s.one.ex s.two.ex s.three.ex → x ≤ℤ y
zle_by ρ h x y s t = certified Zring Zord ρ 0 h.holds s t

pub zeq_by : (ρ : List ℤ) {c x y : ℤ} → pos 0 ≡ c → (s : Quoted₃ Zring ρ c x y) → Balances Zring (len ρ) s.one.ex s.two.ex s.three.ex → x ≡ y
zeq_by ρ h s t = balanced Zring ρ h s t

infixl 6 ◌&◌
infixl 7 ◌·◌
pub ◌·◌ : (e : ℤ) {x y : ℤ} → x ≡ y → pos 0 ≡ e *ℤ (y +ℤ neg_ℤ x)
e · h = multiple Zring e h

pub ◌&◌ : {x y : ℤ} → pos 0 ≡ x → pos 0 ≡ y → pos 0 ≡ x +ℤ y
p & q = both Zring p q

-- a factor above 0 cancels
pub zcancel : (d : ℕ) → 0 < d → (x y : ℤ) → x *ℤ pos d ≡ y *ℤ pos d → x ≡ y
zcancel d p x y h = ≤ℤ-antisym x y (≤ℤ-cancel d p x y (≤ℤ-of-≡ h)) (≤ℤ-cancel d p y x (≤ℤ-of-≡ (sym h)))
