-- The size of a scale by powers of 2: `Size x e f` says 2 ^ -e ≤ x ≤ 2 ^ f.
use Rattle.std.specs.Prelude.{[], ◌∷◌, ℕ, ◌+◌, ◌^◌, ◌≤◌}
use Rattle.fraction.specs.Fraction.{Fraction, nat, pow2, neg_f, ◌*F◌, inv, ◌≤F◌, ◌<F◌}
use Rattle.fraction.proofs.Field.{≤F-trans, nn-nat_f, le_of_lt}
use Rattle.fraction.proofs.Order.{mul_mono, ≤F-refl, pos_of_one, nat_le, pow2_add, pow2_mono}
use Rattle.fraction.proofs.Inverse.{mul_inv, inv_nn}
use Rattle.fraction.proofs.Certificate.{quote}
use Rattle.fraction.proofs.Certificate.{le_by, up, eqn, ◌⊞◌, ◌⊠◌, ◌·◌}

pub record Size (x : Fraction) (e f : ℕ) : Type 0 where
  pub low : nat 1 ≤F x *F pow2 e
  pub high : x ≤F pow2 f

pub size_pos : {x : Fraction} {e f : ℕ} → Size x e f → nat 0 <F x
size_pos {x} {e} h = pos_of_one x (pow2 e) h.low (nn-nat_f (2 ^ e))

pub size_nat : (n f : ℕ) → 1 ≤ n → n ≤ 2 ^ f → Size (nat n) 0 f
size_nat n f h k = record { low = le_by (nat n ∷ []) 0 (up (nat_le 1 n h)) (search quote depth 24) tt; high = nat_le n (2 ^ f) k }

pub size_mul : {x y : Fraction} {e f e' f' : ℕ} → Size x e f → Size y e' f' → Size (x *F y) (e + e') (f + f')
size_mul {x} {y} {e} {f} {e'} {f'} h k = record {
  low = le_by (x ∷ y ∷ pow2 e ∷ pow2 e' ∷ pow2 (e + e') ∷ []) 0 (up h.low ⊠ up k.low ⊞ up h.low ⊞ up k.low ⊞ eqn (neg_f (x *F y) · pow2_add e e')) (search quote depth 24) tt;
  high = le_by (x ∷ y ∷ pow2 f ∷ pow2 f' ∷ pow2 (f + f') ∷ []) 0 (up h.high ⊠ le_of_lt (size_pos k) ⊞ nn-nat_f (2 ^ f) ⊠ up k.high ⊞ eqn (neg_f (nat 1) · pow2_add f f')) (search quote depth 24) tt;
}

pub size_inv : {x : Fraction} {e f : ℕ} → Size x e f → Size (inv x) f e
size_inv {x} {e} {f} h = record {
  low = le_by (x ∷ inv x ∷ pow2 f ∷ []) 0 (up h.high ⊠ inv_nn (size_pos h) ⊞ eqn (neg_f (nat 1) · mul_inv (size_pos h))) (search quote depth 24) tt;
  high = le_by (x ∷ inv x ∷ pow2 e ∷ []) 0 (up h.low ⊠ inv_nn (size_pos h) ⊞ eqn (pow2 e · mul_inv (size_pos h))) (search quote depth 24) tt;
}

pub size_wider : {x : Fraction} {e f : ℕ} (e' f' : ℕ) → Size x e f → e ≤ e' → f ≤ f' → Size x e' f'
size_wider {x} {e} {f} e' f' h p q = record {
  low = ≤F-trans h.low (mul_mono (le_of_lt (size_pos h)) ≤F-refl (nn-nat_f (2 ^ e)) (pow2_mono e e' p));
  high = ≤F-trans h.high (pow2_mono f f' q);
}
