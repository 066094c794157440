-- The three kinds of node: what holds of the centre, of every inner node and of the surface holds of each node.
use Rattle.std.specs.Prelude.{ℕ, zero, suc, ◌+◌, ◌-◌, ◌<◌, ◌≤◌, ◌≡◌, refl, Bool, true, false, T, eqb, ltb}
use Rattle.std.proofs.Common.{sym, subst, ⊎_elim, eq-or-lt_of_le, arith, eqb→eq, ltb→lt, lt→ltb}
use Rattle.std.proofs.Math.Dec.{eqb_refl}

pub by_place : (P : ℕ → Type 0) (n : ℕ) → 3 ≤ n → P 0 → ((i : ℕ) → 1 ≤ i → i + 1 < n → P i) → P (n - 1) → (i : ℕ) → i < n → P i
by_place P n m c s e zero l = c
by_place P n m c s e (suc i) l =
    ⊎_elim (λ (q : suc i ≡ n - 1). subst P (sym q) e) (λ (q : suc i < n - 1). s (suc i) (omega arith) (omega arith)) (eq-or-lt_of_le (le_pred (suc i) n l))
  where
    le_pred : (i n : ℕ) → i < n → i ≤ n - 1
    le_pred i n l = omega arith

-- ---- the tests that tell them apart
is_true : (b : Bool) → T b → b ≡ true
is_true true t = refl
is_true false t = absurd t

is_false : (b : Bool) → (T b → ⊥) → b ≡ false
is_false true h = absurd (h tt)
is_false false h = refl

pub same_place : (i : ℕ) → eqb i i ≡ true
same_place i = is_true (eqb i i) (eqb_refl i)

pub other_place : (i k : ℕ) → (i ≡ k → ⊥) → eqb i k ≡ false
other_place i k h = is_false (eqb i k) (λ t. h (eqb→eq i k t))

pub before_place : (i k : ℕ) → i < k → ltb i k ≡ true
before_place i k h = is_true (ltb i k) (lt→ltb i k h)

pub from_place : (i k : ℕ) → k ≤ i → ltb i k ≡ false
from_place i k h = is_false (ltb i k) (λ t. let l : i < k = ltb→lt i k t in omega arith)
