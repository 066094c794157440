-- The particles and the electrolyte after a step fit again, where what the step makes is finite. Assumes nothing.
use Prim.Native.Nat.{ℕ, zero, suc, ◌+◌, ◌-◌, ◌*◌, ◌≤◌, ◌<◌}
use Rattle.std.specs.Prelude.{◌≡◌, Bool, true, false, ◌⊎◌, List, T, ltb, Float}
use Rattle.std.proofs.Math.Path.{refl}
use Rattle.std.proofs.Common.{inl, inr, not-suc-le-zero, zero-mul, suc-mul, ltb-true, ltb-false}
use Rattle.std.proofs.Math.Logic.{⊎_elim}
use native.Mathlib.Omega.{arith}
use Rattle.std.proofs.Math.ListN.{length}
use Rattle.std.specs.Float.Ieee.{nan, le, of_bits}
use Rattle.std.specs.Float.Ieee.Scale.{finite}
use Rattle.std.specs.Float.Ieee.Fits.{and_i, and_l, and_r}
use Rattle.min_max.specs.MinMax.{clamp_of}
use Rattle.refusal.specs.Ranges.{in_range}
use Rattle.iterate.specs.Iterate.{first_by, all_at, first_below, first_above}
use Rattle.array_update.specs.ArrayUpdate.{places_length, places_inside, places_before, places_after}
use Rattle.arrays.specs.Places.{at, all_finite}
use Rattle.arrays.specs.Laws.{place_unused, places_long, places_fit_lem}
use Rattle.dfn_places.specs.Places.{solid_fits, electrolyte_fits}
use Rattle.dfn_solid.specs.declared.ParticleParams.{ParticleParams}
use Rattle.dfn_solid.specs.Solid.{node_with, clamped_node, particle_with, particles_with}
use Rattle.dfn_electrolyte.specs.declared.Region.{Region}
use Rattle.dfn_electrolyte.specs.Electrolyte as Electrolyte
use Rattle.dfn_closure.specs.Clamped.{clamp_in, le_chain}
use Rattle.binary64.specs.Literals.{«0·0», «1·0», «100·0», «3000·0», «100000·0»}

side : (a b : ℕ) (t : Bool) → ltb a b ≡ t → (a < b) ⊎ (b ≤ a)
side a b true e = inl (ltb-true a b e)
side a b false e = inr (ltb-false a b e)

lt_or_ge : (a b : ℕ) → (a < b) ⊎ (b ≤ a)
lt_or_ge a b = side a b (ltb a b) refl

-- no range holds a NaN
no_nan : (lo hi : Float) → T (in_range nan lo hi) → ⊥
unfolding le
no_nan lo hi t = and_r (le lo nan) (le nan hi) t

-- a place that a clamp holds
record Clamped (y lo hi : Float) : Type 0 where
  from : Float
  is : y ≡ clamp_of from lo hi

clamped_in : (y lo hi : Float) → Clamped y lo hi → T (finite lo) → T (finite hi) → T (le lo hi) → T (finite y) → T (in_range y lo hi)
clamped_in y lo hi h p q l f =
    let e = h.is in
    rw e (clamp_in h.from lo hi p q l (rw e at f))

-- ---- the particles
module _ (v : ParticleParams) (c d : List Float) where
  particles_length : (k : ℕ) → length (particles_with v c d k) ≡ length c
  unfolding particles_with particle_with
  particles_length zero = refl
  particles_length (suc k) = rw (places_length (k * v.n) (clamped_node v c d (k * v.n)) (particles_with v c d k) v.n, particles_length k)

  particles_clamped : (k i : ℕ) → k * v.n ≤ length c → i < k * v.n → Clamped (at (particles_with v c d k) i) «0·0» v.c_max
  unfolding particles_with particle_with
  particles_clamped zero i m h = let z : i < 0 = rw (zero-mul v.n) at h in absurd (not-suc-le-zero z)
  particles_clamped (suc k) i m h =
      let b = k * v.n in
      let f = clamped_node v c d b in
      let l = particles_with v c d k in
      let m' : b + v.n ≤ length c = rw (suc-mul k v.n) at m in
      let h' : i < b + v.n = rw (suc-mul k v.n) at h in
      ⊎_elim
      (λ (q : i < b). rw (places_before b f l v.n i nan q) (particles_clamped k i (omega arith) q))
      (λ (q : b ≤ i).
      let e : b + (i - b) ≡ i = omega arith in
      let n : b + v.n ≤ length l = rw (particles_length k) m' in
      record { from = node_with v c d b (i - b); is = rw e at (places_inside b f l v.n (i - b) nan (omega arith) n) })
      (lt_or_ge i b)

  particles_kept : (k i : ℕ) → k * v.n ≤ i → at (particles_with v c d k) i ≡ at c i
  unfolding particles_with particle_with
  particles_kept zero i h = refl
  particles_kept (suc k) i h =
      let h' : k * v.n + v.n ≤ i = rw (suc-mul k v.n) at h in
      rw (places_after (k * v.n) (clamped_node v c d (k * v.n)) (particles_with v c d k) v.n i nan h') (particles_kept k i (omega arith))

  pub solid_closed : (m : ℕ) → m * v.n ≤ 512 → T (finite «0·0») → T (finite v.c_max) → T (le «0·0» v.c_max)
      → T (solid_fits c (m * v.n) v.c_max) → T (all_finite (particles_with v c d m) (m * v.n)) → T (solid_fits (particles_with v c d m) (m * v.n) v.c_max)
  unfolding solid_fits
  solid_closed m r z p q t f =
      let u = m * v.n in
      let out = particles_with v c d m in
      let n : 512 ≤ length c = places_long (λ x. in_range x «0·0» v.c_max) c u 512 t (no_nan «0·0» v.c_max) in
      places_fit_lem (λ x. in_range x «0·0» v.c_max) out u 512
      (λ i l h. clamped_in (at out i) «0·0» v.c_max (particles_clamped m i (omega (arith, r, n)) h) z p q (all_at (λ j. finite (at out j)) u i h f))
      (λ i l h. rw (particles_kept m i h) (place_unused (λ x. in_range x «0·0» v.c_max) c u 512 t i l h))

-- ---- the electrolyte
abbrev low : Float
low = «100·0»

abbrev high : Float
high = «3000·0»

abbrev least : Float
least = «1·0»

abbrev most : Float
most = «100000·0»

low_finite : T (finite low)
unfolding of_bits
low_finite = tt

high_finite : T (finite high)
unfolding of_bits
high_finite = tt

least_finite : T (finite least)
unfolding of_bits
least_finite = tt

most_finite : T (finite most)
unfolding of_bits
most_finite = tt

low_high : T (le low high)
unfolding of_bits le
low_high = tt

least_low : T (le least low)
unfolding of_bits le
least_low = tt

high_most : T (le high most)
unfolding of_bits le
high_most = tt

-- 100 to 3,000 is in 1 to 1e5
wider : (y : Float) → T (finite y) → T (in_range y low high) → T (in_range y least most)
wider y f t =
    and_i (le least y) (le y most)
    (le_chain least low y least_finite low_finite f least_low (and_l (le low y) (le y high) t))
    (le_chain y high most f high_finite most_finite (and_r (le low y) (le y high) t) high_most)

pub electrolyte_closed : (neg pos : Region) (c d : List Float) → neg.n + 1 + pos.n ≤ 33
    → T (electrolyte_fits c (neg.n + 1 + pos.n)) → T (all_finite (Electrolyte.nodes_with neg pos c d) (neg.n + 1 + pos.n)) → T (electrolyte_fits (Electrolyte.nodes_with neg pos c d) (neg.n + 1 + pos.n))
unfolding electrolyte_fits Electrolyte.nodes_with
electrolyte_closed neg pos c d r t f =
    let u = neg.n + 1 + pos.n in
    let g : ℕ → Float = λ i. clamp_of (Electrolyte.node_with neg pos c d i) low high in
    let out = first_by u g c in
    let n : 33 ≤ length c = places_long (λ x. in_range x least most) c u 33 t (no_nan least most) in
    places_fit_lem (λ x. in_range x least most) out u 33
    (λ i l h.
    let y = all_at (λ j. finite (at out j)) u i h f in
    wider (at out i) y (clamped_in (at out i) low high (record { from = Electrolyte.node_with neg pos c d i; is = first_below g c u i nan h (omega (arith, r, n)) }) low_finite high_finite low_high y))
    (λ i l h. rw (first_above g c u i nan h) (place_unused (λ x. in_range x least most) c u 33 t i l h))
