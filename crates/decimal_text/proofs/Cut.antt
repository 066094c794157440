-- A number that is cut is read as the whole one, which is too long. Assumes nothing.
use Rattle.std.proofs.Common.{◌≡◌, ℕ, zero, suc, ◌+◌, ◌-◌, ◌*◌, ◌^◌, ◌<◌, ◌≤◌, min, Bool, true, false, ◌&&◌, leb, sym, refl, ◌∙◌, le_trans, zero-lt-suc, mul-le-mul_left, mul-one, mul_comm, zero-mul, sub-eq-zero_of_le, arith, None}
use native.Mathlib.Nat.{min-eq_right, one-le-pow}
use native.Mathlib.Omega.{min_cases}
use borrow.Author.Tests.{lt-leb}
use Rattle.decimal_text.specs.Nearest.{nearest_to}
use Rattle.decimal_text.specs.Digits.{most}
use Rattle.decimal_text.specs.DecimalText.{scaled_by}

and-false : (a : Bool) → a && false ≡ false
and-false true = refl
and-false false = refl

pub nearest_long : (d k : ℕ) → 22 < k → None ≡ nearest_to d k
unfolding nearest_to
nearest_long d k h = rw (lt-leb k 22 h, and-false (leb d (2 ^ 53)))

nearest_past : (d k : ℕ) → most ≤ d → None ≡ nearest_to d k
unfolding nearest_to
nearest_past d k h = rw (lt-leb d (2 ^ 53) (omega arith))

pub nearest_cut : (d k : ℕ) → nearest_to (min d most) k ≡ nearest_to d k
nearest_cut d k =
    min_cases d most (nearest_to (min d most) k ≡ nearest_to d k)
    (λ h e. rw e)
    (λ h e. rw e (sym (nearest_past most k (omega arith)) ∙ nearest_past d k h))

product_cut : (d p : ℕ) → 1 ≤ p → min (min d most * p) most ≡ min (d * p) most
product_cut d p q =
    min_cases d most (min (min d most * p) most ≡ min (d * p) most)
    (λ h e. rw e)
    (λ h e. rw e (min-eq_right (at_least most) ∙ sym (min-eq_right (le_trans h (at_least d)))))
  where
    at_least : (n : ℕ) → n ≤ n * p
    at_least n = rw (mul-one n) at (mul-le-mul_left n q)

pub scaled_cut : (d p e : ℕ) (down : Bool) → scaled_by (min d most) p e down ≡ scaled_by d p e down
unfolding scaled_by
scaled_cut d p e true = nearest_cut d (p + e)
scaled_cut d p e false =
    let power = one-le-pow (e - p) 10 (zero-lt-suc 9) in
    sym (nearest_cut (min d most * 10 ^ (e - p)) (p - e)) ∙ rw (product_cut d (10 ^ (e - p)) power) (nearest_cut (d * 10 ^ (e - p)) (p - e))

-- ---- the three ways of scaling
pub scaled_places : (d p e : ℕ) → e ≤ p → nearest_to d (p - e) ≡ scaled_by d p e false
unfolding scaled_by
scaled_places d p e h = rw (sub-eq-zero_of_le h, mul-one d)

far : (a b : ℕ) → most ≤ a → most ≤ b → nearest_to a 0 ≡ nearest_to b 0
far a b h k = sym (nearest_past a 0 h) ∙ nearest_past b 0 k

-- a product that is cut at 2^64 - 1, as that of a power that is cut there
product_long : (d p : ℕ) → nearest_to (min (d * min p (2 ^ 64 - 1)) (2 ^ 64 - 1)) 0 ≡ nearest_to (d * p) 0
product_long d p =
    min_cases p (2 ^ 64 - 1) (nearest_to (min (d * min p (2 ^ 64 - 1)) (2 ^ 64 - 1)) 0 ≡ nearest_to (d * p) 0)
    (λ h e. rw e (min_cases (d * p) (2 ^ 64 - 1) (nearest_to (min (d * p) (2 ^ 64 - 1)) 0 ≡ nearest_to (d * p) 0) (λ h e. rw e) (λ h e. rw e (far (2 ^ 64 - 1) (d * p) (omega arith) (omega arith)))))
    (λ h e. rw e (go d h))
  where
    at_least : (n d : ℕ) → n ≤ suc d * n
    at_least n d = rw (mul_comm (suc d) n) (rw (mul-one n) at (mul-le-mul_left n (zero-lt-suc d)))

    go : (d : ℕ) → 2 ^ 64 - 1 ≤ p → nearest_to (min (d * (2 ^ 64 - 1)) (2 ^ 64 - 1)) 0 ≡ nearest_to (d * p) 0
    go zero h = rw (zero-mul p)
    go (suc d) h = rw (min-eq_right (at_least (2 ^ 64 - 1) d)) (far (2 ^ 64 - 1) (suc d * p) (omega arith) (le_trans (omega arith) (le_trans h (at_least p d))))

pub scaled_raised : (d p e : ℕ) → p ≤ e → nearest_to (min (d * min (10 ^ (e - p)) (2 ^ 64 - 1)) (2 ^ 64 - 1)) 0 ≡ scaled_by d p e false
unfolding scaled_by
scaled_raised d p e h = rw (sub-eq-zero_of_le h) (product_long d (10 ^ (e - p)))
