-- The places of a profile. Definitions only.
use Rattle.std.specs.Prelude.{ℕ, Bool, List, Float}
use Rattle.refusal.specs.Ranges.{in_range}
use Rattle.arrays.specs.Places.{all_finite, places_fit}
use Rattle.binary64.specs.Literals.{«0·0»}

-- of 64 places the first n used, in 0 to the sheet's largest concentration
unfoldable pub profile_fits : List Float → ℕ → Float → Bool
profile_fits c n cmax = places_fit (λ x. in_range x «0·0» cmax) c n 64

-- every place a number
abbrev pub finite_profile : List Float → Bool
finite_profile c = all_finite c 64
