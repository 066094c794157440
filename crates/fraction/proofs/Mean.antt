-- Weighted means, written as moves from x: x + w·(y − x) has the weights 1 − w and w, x + v·(y − x) + w·(z − x) has 1 − v − w, v and w.
-- Where no weight is below 0 a mean keeps bounds, order and distances.
use Rattle.std.specs.Prelude.{[], ◌∷◌}
use Rattle.fraction.specs.Fraction.{Fraction, nat, ◌+F◌, ◌-F◌, ◌*F◌, ◌≤F◌, ◌within◌, ◌from◌to◌}
use Rattle.fraction.proofs.Certificate.{quote}
use Rattle.fraction.proofs.Certificate.{le_by, within_by, up, hi, lo, ◌⊞◌, ◌⊠◌}

abbrev pub mean₂ : (w x y : Fraction) → Fraction
mean₂ w x y = x +F w *F (y -F x)

abbrev pub mean₃ : (v w x y z : Fraction) → Fraction
mean₃ v w x y z = x +F v *F (y -F x) +F w *F (z -F x)

pub record Weights (v w : Fraction) : Type 0 where
  pub first : nat 0 ≤F v
  pub second : nat 0 ≤F w
  pub rest : v +F w ≤F nat 1

module _ {w : Fraction} (h : w from nat 0 to nat 1) where
  pub mean₂_mono : {x y x' y' : Fraction} → x ≤F x' → y ≤F y' → mean₂ w x y ≤F mean₂ w x' y'
  mean₂_mono {x} {y} {x'} {y'} p q = le_by (w ∷ x ∷ y ∷ x' ∷ y' ∷ []) 0 (up h.upper ⊠ up p ⊞ h.lower ⊠ up q) (search quote depth 24) tt

  pub mean₂_apart : (x y x' y' : Fraction) {e : Fraction} → x -F x' within e → y -F y' within e → mean₂ w x y -F mean₂ w x' y' within e
  mean₂_apart x y x' y' {e} p q = within_by (w ∷ x ∷ y ∷ x' ∷ y' ∷ e ∷ []) 0
      (up h.upper ⊠ hi p ⊞ h.lower ⊠ hi q) (up h.upper ⊠ lo p ⊞ h.lower ⊠ lo q) (search quote depth 24) tt tt

  pub mean₂_between : {x y a b : Fraction} → x from a to b → y from a to b → mean₂ w x y from a to b
  mean₂_between {x} {y} {a} {b} p q = record {
    lower = le_by (w ∷ x ∷ y ∷ a ∷ []) 0 (up h.upper ⊠ up p.lower ⊞ h.lower ⊠ up q.lower) (search quote depth 24) tt;
    upper = le_by (w ∷ x ∷ y ∷ b ∷ []) 0 (up h.upper ⊠ up p.upper ⊞ h.lower ⊠ up q.upper) (search quote depth 24) tt;
  }

module _ {v w : Fraction} (h : Weights v w) where
  pub mean₃_mono : {x y z x' y' z' : Fraction} → x ≤F x' → y ≤F y' → z ≤F z' → mean₃ v w x y z ≤F mean₃ v w x' y' z'
  mean₃_mono {x} {y} {z} {x'} {y'} {z'} p q r = le_by (v ∷ w ∷ x ∷ y ∷ z ∷ x' ∷ y' ∷ z' ∷ []) 0
      (up h.rest ⊠ up p ⊞ h.first ⊠ up q ⊞ h.second ⊠ up r) (search quote depth 24) tt

  pub mean₃_apart : (x y z x' y' z' : Fraction) {e : Fraction} → x -F x' within e → y -F y' within e → z -F z' within e → mean₃ v w x y z -F mean₃ v w x' y' z' within e
  mean₃_apart x y z x' y' z' {e} p q r = within_by (v ∷ w ∷ x ∷ y ∷ z ∷ x' ∷ y' ∷ z' ∷ e ∷ []) 0
      (up h.rest ⊠ hi p ⊞ h.first ⊠ hi q ⊞ h.second ⊠ hi r) (up h.rest ⊠ lo p ⊞ h.first ⊠ lo q ⊞ h.second ⊠ lo r) (search quote depth 24) tt tt

  pub mean₃_between : {x y z a b : Fraction} → x from a to b → y from a to b → z from a to b → mean₃ v w x y z from a to b
  mean₃_between {x} {y} {z} {a} {b} p q r = record {
    lower = le_by (v ∷ w ∷ x ∷ y ∷ z ∷ a ∷ []) 0 (up h.rest ⊠ up p.lower ⊞ h.first ⊠ up q.lower ⊞ h.second ⊠ up r.lower) (search quote depth 24) tt;
    upper = le_by (v ∷ w ∷ x ∷ y ∷ z ∷ b ∷ []) 0 (up h.rest ⊠ up p.upper ⊞ h.first ⊠ up q.upper ⊞ h.second ⊠ up r.upper) (search quote depth 24) tt;
  }
