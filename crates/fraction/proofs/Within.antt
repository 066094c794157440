-- ∣x∣ ≤ b, `x within b`, and the distance ∣x − q∣ ≤ e, `x -F q within e`.
use Rattle.std.specs.Prelude.{◌≡◌, refl, [], ◌∷◌, ◌⊎◌, zero, suc, ℤ, pos, negsuc, ◌*ℤ◌, neg_ℤ, nat_abs, ◌≤ℤ◌}
use Rattle.std.proofs.Common.{ap, inl, inr, ⊎_elim}
use Rattle.std.specs.Int.Signed.{le_z_yes, ≤ℤ_refl}
use Rattle.fraction.specs.IntegerRing.{zquote, zle_by}
use Rattle.fraction.specs.IntegerRing as Z
use Rattle.fraction.specs.Fraction.{Fraction, below, nat, ◌+F◌, neg_f, ◌-F◌, ◌*F◌, ◌≈F◌, ◌≤F◌, ◌within◌, ∣◌∣}
use Rattle.fraction.proofs.Field.{≈F-sym}
use Rattle.fraction.proofs.Certificate.{quote}
use Rattle.fraction.proofs.Certificate.{ring, le_by, within_by, up, hi, lo, num, eqn, ◌⊞◌, ◌⊠◌, ◌·◌}

pub within_nn : {x b : Fraction} → x within b → nat 0 ≤F b
within_nn {x} {b} h = le_by (x ∷ b ∷ []) 1 (hi h ⊞ lo h) (search quote depth 24) tt

-- a number at least 0 is within itself
pub within_self : {x : Fraction} → nat 0 ≤F x → x within x
within_self {x} h = within_by (x ∷ []) 0 (num 0) (num 2 ⊠ h) (search quote depth 24) tt tt

pub within_weaken : {x b c : Fraction} → x within b → b ≤F c → x within c
within_weaken {x} {b} {c} h k = within_by (x ∷ b ∷ c ∷ []) 0 (hi h ⊞ up k) (lo h ⊞ up k) (search quote depth 24) tt tt

pub within_resp : {x y b : Fraction} → x ≈F y → x within b → y within b
within_resp {x} {y} {b} e h = within_by (x ∷ y ∷ b ∷ []) 0 (hi h ⊞ eqn (nat 1 · ≈F-sym e)) (lo h ⊞ eqn (nat 1 · e)) (search quote depth 24) tt tt

pub within_neg : {x b : Fraction} → x within b → neg_f x within b
within_neg {x} {b} h = within_by (x ∷ b ∷ []) 0 (lo h) (hi h) (search quote depth 24) tt tt

-- the triangle inequality, for sums and for distances
pub within_add : {x y b c : Fraction} → x within b → y within c → x +F y within b +F c
within_add {x} {y} {b} {c} h k = within_by (x ∷ y ∷ b ∷ c ∷ []) 0 (hi h ⊞ hi k) (lo h ⊞ lo k) (search quote depth 24) tt tt

pub within_mul : {x y b c : Fraction} → x within b → y within c → x *F y within b *F c
within_mul {x} {y} {b} {c} h k = within_by (x ∷ y ∷ b ∷ c ∷ []) 1 (hi h ⊠ lo k ⊞ lo h ⊠ hi k) (hi h ⊠ hi k ⊞ lo h ⊠ lo k) (search quote depth 24) tt tt

pub apart_trans : (x y z : Fraction) {e f : Fraction} → x -F y within e → y -F z within f → x -F z within e +F f
apart_trans x y z {e} {f} h k = within_by (x ∷ y ∷ z ∷ e ∷ f ∷ []) 0 (hi h ⊞ hi k) (lo h ⊞ lo k) (search quote depth 24) tt tt

-- each is at most the other and e
pub apart : {x y e : Fraction} → x ≤F y +F e → y ≤F x +F e → x -F y within e
apart {x} {y} {e} h k = within_by (x ∷ y ∷ e ∷ []) 0 (up h) (up k) (search quote depth 24) tt tt

-- ∣x·y − a·b∣ ≤ A·f + B·e + e·f
pub product_error : (x y a b : Fraction) {A B e f : Fraction} → x -F a within e → y -F b within f → a within A → b within B → x *F y -F a *F b within A *F f +F B *F e +F e *F f
product_error x y a b hx hy ha hb =
    within_resp (ring (x ∷ y ∷ a ∷ b ∷ []) (search quote depth 24) tt) (within_add (within_add (within_mul ha hy) (within_mul hb hx)) (within_mul hx hy))

-- ---- the size
pub within_abs : (x : Fraction) → x within ∣ x ∣
unfolding ∣◌∣ neg_f
within_abs x = record {
  lo = record { cross = scale (neg_ℤ (pos (nat_abs x.top))) x.top (low x.top) };
  hi = record { cross = scale x.top (pos (nat_abs x.top)) (high x.top) };
}
  where
    high : (z : ℤ) → z ≤ℤ pos (nat_abs z)
    high (pos n) = ≤ℤ_refl (pos n)
    high (negsuc n) = le_z_yes tt

    low : (z : ℤ) → neg_ℤ (pos (nat_abs z)) ≤ℤ z
    low (pos zero) = ≤ℤ_refl (pos zero)
    low (pos (suc n)) = le_z_yes tt
    low (negsuc n) = ≤ℤ_refl (negsuc n)

    scale : (a b : ℤ) → a ≤ℤ b → (a *ℤ below x) ≤ℤ (b *ℤ below x)
    scale a b h = zle_by (a ∷ b ∷ below x ∷ []) (Z.◌⊠◌ (Z.up a b h) (Z.natural x.bottom)) (a *ℤ below x) (b *ℤ below x) (search zquote depth 24) tt

-- ∣x∣ is x or −x
abs_is : (x : Fraction) → (∣ x ∣ ≈F x) ⊎ (∣ x ∣ ≈F neg_f x)
unfolding ∣◌∣ neg_f
abs_is x = ⊎_elim (λ (e : pos (nat_abs x.top) ≡ x.top). inl (record { cross = ap (λ (z : ℤ). z *ℤ below x) e }))
    (λ (e : pos (nat_abs x.top) ≡ neg_ℤ x.top). inr (record { cross = ap (λ (z : ℤ). z *ℤ below x) e })) (go x.top)
  where
    go : (z : ℤ) → (pos (nat_abs z) ≡ z) ⊎ (pos (nat_abs z) ≡ neg_ℤ z)
    go (pos n) = inl refl
    go (negsuc n) = inr refl

pub abs_of_within : {x b : Fraction} → x within b → ∣ x ∣ ≤F b
abs_of_within {x} {b} h = elim (abs_is x) [
  | inl e ↦ le_by (∣ x ∣ ∷ x ∷ b ∷ []) 0 (hi h ⊞ eqn (nat 1 · e)) (search quote depth 24) tt
  | inr e ↦ le_by (∣ x ∣ ∷ x ∷ b ∷ []) 0 (lo h ⊞ eqn (nat 1 · e)) (search quote depth 24) tt
]
