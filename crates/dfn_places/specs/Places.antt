-- The places of a cell's arrays. Definitions only.
use Rattle.std.specs.Prelude.{ℕ, zero, suc, Bool, List, Float}
use Rattle.binary64.specs.Operators.{◌⊖◌}
use Rattle.binary64.specs.Literals.{«0·0», «1·0», «100000·0»}
use Rattle.min_max.specs.MinMax.{abs_of, max_of}
use Rattle.refusal.specs.Ranges.{in_range}
use Rattle.arrays.specs.Places.{at, places_fit}

-- of 512 places the first n used, in 0 to the electrode's largest concentration
unfoldable pub solid_fits : List Float → ℕ → Float → Bool
solid_fits c n cmax = places_fit (λ x. in_range x «0·0» cmax) c n 512

-- of 33 places the first n used, in 1 to 1e5
unfoldable pub electrolyte_fits : List Float → ℕ → Bool
electrolyte_fits c n = places_fit (λ x. in_range x «1·0» «100000·0») c n 33

-- the largest change of the first k places, from 0.0: a NaN does not survive the maximum
unfoldable pub change_after : List Float → List Float → ℕ → Float
change_after new old zero = «0·0»
change_after new old (suc k) = max_of (change_after new old k) (abs_of (at new k ⊖ at old k))
