-- Tests and numbers of equal parts are equal: what a chain of calls gave becomes its definition part by part. Assumes nothing.
use Rattle.std.specs.Prelude.{ℕ, zero, suc, ◌≡◌, refl, Bool, ◌&&◌}
use Rattle.std.proofs.Math.Dec.{eqb-suc-zero}
use Rattle.refusal.specs.Numbers.{refusal_unless, first_refusal}

infixl 50 ◌both◌
pub ◌both◌ : {a b c d : Bool} → a ≡ b → c ≡ d → a && c ≡ b && d
p both q = rw (p, q)

pub equal_unless : (number : ℕ) {a b : Bool} → a ≡ b → refusal_unless a number ≡ refusal_unless b number
equal_unless number p = rw p

pub equal_first : {a b c d : ℕ} → a ≡ b → c ≡ d → first_refusal a c ≡ first_refusal b d
equal_first p q = rw (p, q)

-- a number that was met before is not met again
pub first_once : (g l f x : ℕ) → first_refusal g (first_refusal l (first_refusal (first_refusal g f) x)) ≡ first_refusal g (first_refusal l (first_refusal f x))
unfolding first_refusal
first_once zero l f x = refl
first_once (suc g) l f x = rw eqb-suc-zero
