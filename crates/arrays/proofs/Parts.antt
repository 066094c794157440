-- The tests of an array's two parts, as slices, are the test of the whole. Assumes nothing.
use Rattle.std.proofs.Common.{min, add-zero, add-suc, ℕ, zero, suc, ◌+◌, ◌-◌, ◌≤◌, ◌<◌, ◌≡◌, refl, sym, ap, Bool, ◌&&◌, List, Float, length, take, drop, arith, ltb, le-ltb}
use Rattle.std.proofs.Math.Bool.{and_assoc, and-true}
use Rattle.std.proofs.lemmas.List.{get_or-take, get_or-drop, length-take-le, length-drop, take_all}
use Rattle.std.specs.Float.{nan}
use Rattle.refusal.specs.Ranges.{plus_zero}
use Rattle.iterate.specs.Iterate.{all_below}
use Rattle.arrays.specs.Places.{at, all_pass, place_fits, places_fit}
use Rattle.arrays.specs.Laws.{used_alone}

-- tests that are alike
below_same : (f g : ℕ → Bool) (k : ℕ) → ((i : ℕ) → i < k → f i ≡ g i) → all_below k f ≡ all_below k g
unfolding all_below
below_same f g zero h = refl
below_same f g (suc k) h = rw (below_same f g k (λ i l. h i (omega arith)), h k (omega arith))

-- the first u numbers, then k more
below_more : (f : ℕ → Bool) (u k : ℕ) → all_below (u + k) f ≡ (all_below u f && all_below k (λ i. f (u + i)))
unfolding all_below
below_more f u zero = rw (add-zero u, and-true (all_below u f))
below_more f u (suc k) = rw (add-suc u k, below_more f u k) (and_assoc (all_below u f) (all_below k (λ i. f (u + i))) (f (u + k)))

module _ (c : List Float) where
  -- a slice of the first n places
  pub first_part : (t : Float → Bool) (n : ℕ) → n ≤ length c → all_pass t (take n c) (length (take n c)) ≡ all_pass t c n
  first_part t n h =
      let e : length (take n c) ≡ n = length-take-le n c h in
      rw e (below_same _ _ n (λ i l. ap t (get_or-take n c i nan l)))

  module _ (t : Float → Bool) (n u : ℕ) (e : u ≡ min n (length c)) where
    -- the places past the used ones
    rest_part : all_pass plus_zero (drop u c) (length c - u) ≡ all_below (length c - u) (λ i. place_fits t (at c (u + i)) (ltb (u + i) n))
    rest_part = below_same _ _ (length c - u) (λ i l. rw (le-ltb (u + i) n (omega (arith, e, l)), get_or-drop u c i nan))

    both_parts : (all_pass t c u && all_pass plus_zero (drop u c) (length c - u)) ≡ places_fit t c n (length c)
    unfolding places_fit
    both_parts =
        let whole : u + (length c - u) ≡ length c = omega (arith, e) in
        rw (used_alone t c n u (omega (arith, e)), rest_part, sym (below_more (λ i. place_fits t (at c i) (ltb i n)) u (length c - u)), whole)

    -- a slice of the used places, and one of the others
    pub parts : (all_pass t (take u c) (length (take u c)) && all_pass plus_zero (take (length c - u) (drop u c)) (length (take (length c - u) (drop u c)))) ≡ places_fit t c n (length c)
    parts =
        let l : length (drop u c) ≡ length c - u = length-drop u c in
        let w : take (length c - u) (drop u c) ≡ drop u c = take_all _ _ (omega (arith, l)) in
        rw (first_part t u (omega (arith, e)), w, l) both_parts
