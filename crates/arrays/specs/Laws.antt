-- What a place of an array that fits has passed, and that arrays made place by place fit. Assumes nothing.
use Prim.Native.Nat.{ℕ, zero, suc, ◌<◌, ◌≤◌}
use Rattle.std.specs.Prelude.{◌≡◌, Bool, List, length, replicate, Float}
use Rattle.std.proofs.Math.Path.{refl}
use Rattle.std.proofs.Math.Bool.{true, false}
use Rattle.std.proofs.Common.{lt-ltb, le-ltb, ltb-true, ltb-false, lt_of_not-le, le_refl, arith}
use Rattle.std.proofs.Math.Nat.{le_of_suc-le-suc}
use Rattle.std.proofs.Math.Dec.{T, ltb}
use Rattle.std.proofs.lemmas.List.{length-replicate, get_or-replicate}
use Rattle.std.proofs.Math.ListN.{get_or-eq_default}
use Rattle.std.specs.Float.Ieee.{nan, to_bits, of_bits}
use Rattle.refusal.specs.Ranges.{plus_zero}
use Rattle.iterate.specs.Iterate.{all_below, first_below, first_above, all_at, all_of}
use Rattle.arrays.specs.Places.{at, all_pass, place_fits, places_fit, filled}
use Rattle.binary64.specs.Literals.{«0·0»}

module _ (test : Float → Bool) (c : List Float) (n : ℕ) where
  -- where all are used, the test alone decides
  pub used_alone : (k : ℕ) → k ≤ n → all_pass test c k ≡ places_fit test c n k
  unfolding places_fit all_below
  used_alone zero l = refl
  used_alone (suc k) l = rw (lt-ltb k n l, used_alone k (omega arith))

  module _ (k : ℕ) (t : T (places_fit test c n k)) where
    place_at : (i : ℕ) → i < k → T (place_fits test (at c i) (ltb i n))
    unfolding places_fit
    place_at i l = all_at (λ j. place_fits test (at c j) (ltb j n)) k i l t

    pub place_used : (i : ℕ) → i < k → i < n → T (test (at c i))
    place_used i l u = rw (lt-ltb i n u) at (place_at i l)

    pub place_unused : (i : ℕ) → i < k → n ≤ i → T (plus_zero (at c i))
    place_unused i l u = rw (le-ltb i n u) at (place_at i l)

    -- no NaN fits, and past its end a list gives one: so it has all k places
    pub places_long : (T (test nan) → ⊥) → k ≤ length c
    unfolding plus_zero to_bits
    places_long unfit = le_of_suc-le-suc (lt_of_not-le (λ (l : suc (length c) ≤ k). none (ltb (length c) n) (rw (get_or-eq_default c nan (le_refl (length c))) at (place_at (length c) l))))
      where
        none : (b : Bool) → T (place_fits test nan b) → ⊥
        none true h = unfit h
        none false h = h

  -- and back
  pub places_fit_lem : (k : ℕ) → ((i : ℕ) → i < k → i < n → T (test (at c i))) → ((i : ℕ) → i < k → n ≤ i → T (plus_zero (at c i))) → T (places_fit test c n k)
  unfolding places_fit
  places_fit_lem k f g = all_of (λ j. place_fits test (at c j) (ltb j n)) k (λ i l. go i l (ltb i n) refl)
    where
      go : (i : ℕ) → i < k → (b : Bool) → ltb i n ≡ b → T (place_fits test (at c i) b)
      go i l true e = f i l (ltb-true i n e)
      go i l false e = g i l (ltb-false i n e)

zero_unused : T (plus_zero «0·0»)
unfolding plus_zero to_bits of_bits
zero_unused = tt

-- an array whose used places hold x
pub filled_fits : (test : Float → Bool) (size n : ℕ) (x : Float) → n ≤ size → T (test x) → T (places_fit test (filled size x n) n size)
filled_fits test size n x m t =
    let zeros = replicate size «0·0» in
    places_fit_lem test (filled size x n) n size
    (λ i l u. rw (first_below (λ k. x) zeros n i nan u (rw (length-replicate size «0·0») m)) t)
    (λ i l u. rw (first_above (λ k. x) zeros n i nan u, get_or-replicate size i «0·0» nan l) zero_unused)
