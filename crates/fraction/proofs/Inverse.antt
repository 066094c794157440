-- The inverse and the quotient.
use Rattle.std.specs.Prelude.{◌≡◌, [], ◌∷◌, ℕ, zero, suc, ◌<◌, ℤ, pos, negsuc, ◌*ℤ◌, ◌<ℤ◌}
use Rattle.std.proofs.Common.{ap, inl, inr, arith}
use Rattle.std.specs.Int.Signed.{<ℤ_irrefl}
use Rattle.fraction.specs.Integer.{≤ℤ-or}
use Rattle.fraction.specs.IntegerRing.{zquote, zle_by}
use Rattle.fraction.specs.IntegerRing as Z
use Rattle.fraction.specs.Fraction.{Fraction, below, whole, nat, ◌+F◌, neg_f, ◌-F◌, ◌*F◌, ◌/F◌, inv, turned, ◌≈F◌, ◌≤F◌, ◌<F◌, ◌within◌}
use Rattle.fraction.proofs.Field.{lt_not_le, lt_from, le_of_lt}
use Rattle.fraction.proofs.Order.{lt_le_trans, pos_of_one}
use Rattle.fraction.proofs.Within.{within_resp, within_add, within_mul, within_neg}
use Rattle.fraction.proofs.Certificate.{quote}
use Rattle.fraction.proofs.Certificate.{le_by, eq_by, up, eqn, ◌⊞◌, ◌⊠◌, ◌·◌, ◌&◌}

-- above 0: so is the number above
top_pos : {x : Fraction} → nat 0 <F x → pos 0 <ℤ x.top
unfolding whole
top_pos {x} h = elim (≤ℤ-or x.top (pos 0)) [
  | inl k ↦ absurd (lt_not_le h (record { cross = zle_by (x.top ∷ below x ∷ []) (Z.up x.top (pos 0) k) (x.top *ℤ pos 1) (pos 0 *ℤ below x) (search zquote depth 24) tt }))
  | inr k ↦ k
]

turned_is : (t : ℤ) (b : ℕ) (p : 0 < b) → pos 0 <ℤ t → (t *ℤ (turned t b p).top) *ℤ pos 1 ≡ pos 1 *ℤ (pos b *ℤ below (turned t b p))
unfolding turned
turned_is (pos zero) b p h = absurd (<ℤ_irrefl h)
turned_is (pos (suc n)) b p h = ap pos (omega arith)
turned_is (negsuc n) b p h = absurd h.lt

pub mul_inv : {x : Fraction} → nat 0 <F x → x *F inv x ≈F nat 1
unfolding inv whole ◌*F◌
mul_inv {x} h = record { cross = turned_is x.top x.bottom x.above (top_pos h) }

pub inv_pos : {x : Fraction} → nat 0 <F x → nat 0 <F inv x
inv_pos {x} h = pos_of_one (inv x) x (le_by (x ∷ inv x ∷ []) 0 (eqn (neg_f (nat 1) · mul_inv h)) (search quote depth 24) tt) (le_of_lt h)

pub inv_nn : {x : Fraction} → nat 0 <F x → nat 0 ≤F inv x
inv_nn h = le_of_lt (inv_pos h)

-- c above 0 cancels
pub mul_cancel : (x y : Fraction) {c : Fraction} → nat 0 <F c → x *F c ≤F y *F c → x ≤F y
mul_cancel x y {c} p h = le_by (x ∷ y ∷ c ∷ inv c ∷ []) 0 (up h ⊠ inv_nn p ⊞ eqn ((y -F x) · mul_inv p)) (search quote depth 24) tt

pub mul-pos : {x y : Fraction} → nat 0 <F x → nat 0 <F y → nat 0 <F x *F y
mul-pos {x} {y} p q = lt_from q (λ (l : x *F y ≤F nat 0). le_by (x ∷ y ∷ inv x ∷ []) 0 (up l ⊠ inv_nn p ⊞ eqn (neg_f y · mul_inv p)) (search quote depth 24) tt)

-- a larger divisor
pub inv_anti : {x y : Fraction} → nat 0 <F x → x ≤F y → inv y ≤F inv x
inv_anti {x} {y} p h =
    let q : nat 0 <F y = lt_le_trans p h in
    le_by (x ∷ y ∷ inv x ∷ inv y ∷ []) 0 (up h ⊠ inv_nn p ⊠ inv_nn q ⊞ eqn (neg_f (inv y) · mul_inv p & inv x · mul_inv q)) (search quote depth 24) tt

pub inv_mul : {x y : Fraction} → nat 0 <F x → nat 0 <F y → inv (x *F y) ≈F inv x *F inv y
inv_mul {x} {y} p q = eq_by (x ∷ y ∷ inv x ∷ inv y ∷ inv (x *F y) ∷ [])
    (inv x *F inv y · mul_inv (mul-pos p q) & neg_f (inv (x *F y) *F y *F inv y) · mul_inv p & neg_f (inv (x *F y)) · mul_inv q) (search quote depth 24) tt

-- ∣x / y − a / b∣ ≤ Y · (e + Q · f), with ∣1 / y∣ ≤ Y and ∣a / b∣ ≤ Q
pub quotient_error : (x a : Fraction) {y b Y Q e f : Fraction} → nat 0 <F y → nat 0 <F b → x -F a within e → y -F b within f → inv y within Y → a /F b within Q
    → x /F y -F a /F b within Y *F (e +F Q *F f)
quotient_error x a {y} {b} py pb hx hy h_y h_q =
    within_resp (eq_by (x ∷ y ∷ a ∷ b ∷ inv y ∷ inv b ∷ []) (neg_f (a *F inv b) · mul_inv py & a *F inv y · mul_inv pb) (search quote depth 24) tt)
    (within_mul h_y (within_add hx (within_neg (within_mul h_q hy))))
