-- A profile that fits, after a step whose every place is finite, fits again; a uniform one fits. Assumes nothing.
use Rattle.std.specs.Prelude.{ℕ, ◌≤◌, ◌<◌, ◌≡◌, List, T, Float}
use Rattle.std.proofs.Common.{le_trans}
use Rattle.std.specs.Float.Ieee.{nan, le}
use Rattle.std.specs.Float.Ieee.Fits.{and_i}
use Rattle.refusal.specs.Ranges.{finite}
use Rattle.iterate.specs.Iterate.{first_below, first_above, all_at}
use Rattle.arrays.specs.Places.{at, all_finite, places_fit}
use Rattle.arrays.specs.Laws.{place_unused, places_long, places_fit_lem}
use Rattle.electrolyte_profile.specs.declared.ElectrolyteStepParams.{ElectrolyteStepParams}
use Rattle.electrolyte_profile.specs.Places.{floor, above_floor, profile_fits}
use Rattle.electrolyte_profile.specs.Step.{node_new, profile_new}
use Rattle.electrolyte_profile.specs.Again.{node_floor}

-- ---- the profile after a step
module _ (v : ElectrolyteStepParams) (c : List Float) (small : v.n ≤ 96) (h : T (profile_fits c v.n)) (k : T (all_finite (profile_new v c) 96)) where
  fit : T (places_fit above_floor c v.n 96)
  unfolding profile_fits
  fit = h

  place_again : (i : ℕ) → i < 96 → i < v.n → T (above_floor (at (profile_new v c) i))
  unfolding profile_new
  place_again i l u =
      let q : at (profile_new v c) i ≡ node_new v c i = first_below (node_new v c) c v.n i nan u (le_trans small (places_long above_floor c v.n 96 fit (λ t. t))) in
      and_i (finite (at (profile_new v c) i)) (le floor (at (profile_new v c) i)) (all_at (λ j. finite (at (profile_new v c) j)) 96 i l k) (rw q (node_floor v c i))

  pub profile_again : T (profile_fits (profile_new v c) v.n)
  unfolding profile_fits profile_new
  profile_again =
      places_fit_lem above_floor (profile_new v c) v.n 96 place_again
      (λ i l u. rw (first_above (node_new v c) c v.n i nan u) (place_unused above_floor c v.n 96 fit i l u))
