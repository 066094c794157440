-- A test of the first n of eight phases is the test of each place below n. Assumes nothing.
use Rattle.std.proofs.Common.{ℕ, ◌<◌, ◌≡◌, refl, sym, subst, ◌∙◌, ap, arith, Bool, true, false, ◌||◌, T, leb, List, length, get_or, take, MatchBool}
use Rattle.std.specs.List.{HoldsAt, AllWithin}
use Rattle.std.proofs.lemmas.Bool.{leb-false, lt-leb}
use Rattle.std.proofs.lemmas.List.{get_or-take}
use Rattle.std.proofs.lemmas.Grind.{common_steps}
use Rattle.std.specs.Float.Ieee.Bits.{is_true}
use Rattle.iterate.specs.Iterate.{all_below, all_at, all_of}

module _ {A : Type 0} (test : A → Bool) (l : List A) (d : A) (n : ℕ) (e : length l ≡ 8) where
  abbrev place : ℕ → Bool
  place k = leb n k || test (get_or l k d)

  -- a place below n is one of the first n
  first_n : (k : ℕ) → k < 8 → leb n k ≡ false → (k < length (take n l)) × (test (get_or (take n l) k d) ≡ test (get_or l k d))
  first_n k h z =
      let m = leb-false n k z in
      (grind (arith, common_steps), ap test (get_or-take n l k d m))

  place_true : ((k : ℕ) → k < length (take n l) → test (get_or (take n l) k d) ≡ true) → (k : ℕ) → k < 8 → T (place k)
  place_true h k q = go (leb n k) refl
    where
      go : (b : Bool) → leb n k ≡ b → T (b || test (get_or l k d))
      go true z = tt
      go false z = let f = first_n k q z in subst T (sym (sym f.1 ∙ h k f.0)) tt

  place_false : (k : ℕ) → k < length (take n l) → test (get_or (take n l) k d) ≡ false → (k < 8) × (place k ≡ false)
  place_false k h z =
      let below : k < 8 = grind (arith, common_steps) in
      let first : k < n = grind (arith, common_steps) in
      let m = lt-leb n k first in
      (below, rw m (sym (first_n k below m).1 ∙ z))

  pub tested : (r : Bool) → MatchBool r (AllWithin (λ x. test x ≡ true) (take n l) 0 (length (take n l))) ((k : ℕ) × (k < length (take n l)) × HoldsAt (λ x. test x ≡ false) (take n l) k)
      → r ≡ all_below 8 place
  tested true h = sym (is_true (all_below 8 place) (all_of place 8 (place_true (λ k q. h k d (omega arith) q))))
  tested false h = go (all_below 8 place) refl
    where
      w : (h.0 < 8) × (place h.0 ≡ false)
      w = place_false h.0 h.1 (h.2 d)

      go : (b : Bool) → all_below 8 place ≡ b → false ≡ all_below 8 place
      go true z = absurd (subst T w.1 (all_at place 8 h.0 w.0 (subst T (sym z) tt)))
      go false z = sym z
