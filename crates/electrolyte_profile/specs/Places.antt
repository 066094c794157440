-- The places of the profile: what they are checked for, and their sum. Definitions only.
use Rattle.std.specs.Prelude.{ℕ, zero, suc, Bool, ◌&&◌, List, replicate, Float}
use Rattle.std.specs.Float.Ieee.{le, neg}
use Rattle.binary64.specs.Operators.{◌⊕◌}
use Rattle.binary64.specs.Literals.{«0·0», «1e-10»}
use Rattle.refusal.specs.Ranges.{finite}
use Rattle.arrays.specs.Places.{at, places_fit}

-- the least that a node may hold, 1e-10
abbrev pub floor : Float
floor = «1e-10»

-- finite and at least 1e-10
abbrev pub above_floor : Float → Bool
above_floor x = finite x && le floor x

-- of 96 places the first n used
unfoldable pub profile_fits : List Float → ℕ → Bool
profile_fits c n = places_fit above_floor c n 96

abbrev pub zeros : List Float
zeros = replicate 96 «0·0»

-- the first n places added up from the left. The sum starts at -0, as the Rust's does: any number added to that is itself.
unfoldable pub sum_of : List Float → ℕ → Float
sum_of c zero = neg «0·0»
sum_of c (suc n) = sum_of c n ⊕ at c n
