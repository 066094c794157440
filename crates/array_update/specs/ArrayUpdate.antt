-- A stretch of places after k turns: the definition, and what each place then holds. Assumes nothing.
use Prim.Native.Nat.{ℕ, zero, suc, ◌≤◌, ◌<◌, ◌+◌}
use Rattle.std.specs.Prelude.{◌≡◌, List, get_or, set}
use Rattle.std.proofs.Math.Path.{refl}
use Rattle.std.proofs.Math.Logic.{⊎_elim}
use Rattle.std.proofs.Common.{arith, not-suc-le-zero, eq-or-lt_of_le, le_of_suc-le-suc, length-set, get_or-set_same, get_or-set_other}
use Rattle.std.proofs.Math.ListN.{length}

module _ {A : Type 0} where
  -- the k places from `base` on by f, the others as in l
  unfoldable pub places_by : ℕ → ℕ → (ℕ → A) → List A → List A
  places_by base zero f l = l
  places_by base (suc k) f l = set (places_by base k f l) (base + k) (f k)

module _ {A : Type 0} (base : ℕ) (f : ℕ → A) (l : List A) where
  pub places_length : (k : ℕ) → length (places_by base k f l) ≡ length l
  unfolding places_by
  places_length zero = refl
  places_length (suc k) = rw (length-set, places_length k)

  -- a place of the stretch
  pub places_inside : (k i : ℕ) (d : A) → i < k → base + k ≤ length l → get_or (places_by base k f l) (base + i) d ≡ f i
  unfolding places_by
  places_inside zero i d h n = absurd (not-suc-le-zero h)
  places_inside (suc k) i d h n =
      let m : base + k < length (places_by base k f l) = rw places_length (omega arith) in
      ⊎_elim
      (λ (q : i ≡ k). rw q (get_or-set_same (places_by base k f l) (base + k) (f k) d m))
      (λ (q : i < k). rw (get_or-set_other (places_by base k f l) (base + k) (base + i) (f k) d (λ e. omega arith)) (places_inside k i d q (omega arith)))
      (eq-or-lt_of_le (le_of_suc-le-suc h))

  -- a place before it, and one after it
  pub places_before : (k i : ℕ) (d : A) → i < base → get_or (places_by base k f l) i d ≡ get_or l i d
  unfolding places_by
  places_before zero i d h = refl
  places_before (suc k) i d h = rw (get_or-set_other (places_by base k f l) (base + k) i (f k) d (λ e. omega arith)) (places_before k i d h)

  pub places_after : (k i : ℕ) (d : A) → base + k ≤ i → get_or (places_by base k f l) i d ≡ get_or l i d
  unfolding places_by
  places_after zero i d h = refl
  places_after (suc k) i d h = rw (get_or-set_other (places_by base k f l) (base + k) i (f k) d (λ e. omega arith)) (places_after k i d (omega arith))
