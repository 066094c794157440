-- After k turns: the definitions, and what each place then holds. Assumes nothing.
use Prim.Native.Nat.{ℕ, zero, suc, ◌≤◌, ◌<◌}
use Rattle.std.specs.Prelude.{◌≡◌, Bool, ◌&&◌, List, get_or, set}
use Rattle.std.proofs.Math.Path.{refl}
use Rattle.std.proofs.Math.Bool.{true, false}
use Rattle.std.proofs.Math.Logic.{⊎_elim}
use Rattle.std.proofs.Common.{arith, not-suc-le-zero, eq-or-lt_of_le, le_of_suc-le-suc, ne_of_lt, ne_of_gt, length-set, get_or-set_same, get_or-set_other}
use Rattle.std.proofs.Math.Dec.{T}
use Rattle.std.specs.Float.Ieee.Fits.{and_l, and_r}
use Rattle.std.proofs.Math.ListN.{length}

module _ {A : Type 0} where
  -- the first k places by f, the others as in l
  unfoldable pub first_by : ℕ → (ℕ → A) → List A → List A
  first_by zero f l = l
  first_by (suc k) f l = set (first_by k f l) k (f k)

  -- f made k times
  unfoldable pub times : ℕ → (A → A) → A → A
  times zero f x = x
  times (suc k) f x = f (times k f x)

-- f holds of each number below k
unfoldable pub all_below : ℕ → (ℕ → Bool) → Bool
all_below zero f = true
all_below (suc k) f = all_below k f && f k

module _ {A : Type 0} (f : ℕ → A) (l : List A) where
  -- the last turn
  pub first_suc : (n k : ℕ) → n ≡ suc k → first_by n f l ≡ set (first_by k f l) k (f k)
  unfolding first_by
  first_suc n k e = rw e

  pub first_length : (k : ℕ) → length (first_by k f l) ≡ length l
  unfolding first_by
  first_length zero = refl
  first_length (suc k) = rw (length-set, first_length k)

  -- a place among the first k
  pub first_below : (k i : ℕ) (d : A) → i < k → k ≤ length l → get_or (first_by k f l) i d ≡ f i
  unfolding first_by
  first_below zero i d h n = absurd (not-suc-le-zero h)
  first_below (suc k) i d h n =
      let m : k < length (first_by k f l) = rw first_length n in
      ⊎_elim
      (λ q. rw q (get_or-set_same (first_by k f l) k (f k) d m))
      (λ q. rw (get_or-set_other (first_by k f l) k i (f k) d (ne_of_lt q)) (first_below k i d q (omega arith)))
      (eq-or-lt_of_le (le_of_suc-le-suc h))

  -- any other place
  pub first_above : (k i : ℕ) (d : A) → k ≤ i → get_or (first_by k f l) i d ≡ get_or l i d
  unfolding first_by
  first_above zero i d h = refl
  first_above (suc k) i d h = rw (get_or-set_other (first_by k f l) k i (f k) d (ne_of_gt h)) (first_above k i d (omega arith))

-- places that are made alike
pub first_cong : {A : Type 0} (f g : ℕ → A) (l : List A) (k : ℕ) → ((i : ℕ) → i < k → f i ≡ g i) → first_by k f l ≡ first_by k g l
unfolding first_by
first_cong f g l zero h = refl
first_cong f g l (suc k) h = rw (first_cong f g l k (λ i q. h i (omega arith)), h k (omega arith))

-- steps that are made alike
pub times_cong : {A : Type 0} (f g : A → A) (k : ℕ) → ((x : A) → f x ≡ g x) → (x : A) → times k f x ≡ times k g x
unfolding times
times_cong f g zero h x = refl
times_cong f g (suc k) h x = rw (times_cong f g k h x) (h (times k g x))

module _ (f : ℕ → Bool) where
  -- what holds below k holds of each such number
  pub all_at : (k i : ℕ) → i < k → T (all_below k f) → T (f i)
  unfolding all_below
  all_at zero i h t = absurd (not-suc-le-zero h)
  all_at (suc k) i h t =
      ⊎_elim (λ (q : i ≡ k). rw q (and_r (all_below k f) (f k) t)) (λ q. all_at k i q (and_l (all_below k f) (f k) t)) (eq-or-lt_of_le (le_of_suc-le-suc h))

  -- and the other way
  pub all_of : (k : ℕ) → ((i : ℕ) → i < k → T (f i)) → T (all_below k f)
  unfolding all_below
  all_of zero h = tt
  all_of (suc k) h = both (all_below k f) (f k) (all_of k (λ i q. h i (omega arith))) (h k (omega arith))
    where
      both : (a b : Bool) → T a → T b → T (a && b)
      both true true p q = tt
      both true false p q = q
      both false b p q = p
