-- The tests that the rows of docs/REFERENCE.md's table cite, in the order of binary64, where no NaN compares. Definitions only.
use Rattle.std.specs.Prelude.{ℕ, Bool, ◌&&◌, List, [], ◌∷◌, leb, eqb, Float}
use Rattle.std.specs.Float.{binary64}
use Rattle.std.specs.Float.Ieee.{le, lt, neg, to_bits}
use Rattle.std.specs.Float.Ieee.Scale as Scale
use Rattle.binary64.specs.Literals.{«0·0», «200·0», «400·0», «86400·0»}

-- low <= x <= high: a closed range, so -0 is in one that starts at 0
abbrev pub in_range : Float → Float → Float → Bool
in_range x low high = le low x && le x high

-- a number and its range
pub record Row : Type 0 where
  pub x : Float
  pub low : Float
  pub high : Float

abbrev pub row : Float → Float → Float → Row
row x low high = record { x = x; low = low; high = high }

-- the test b, and each number in its range
abbrev pub in_ranges : Bool → List Row → Bool
in_ranges b [] = b
in_ranges b (r ∷ rs) = in_ranges (b && in_range r.x r.low r.high) rs

abbrev pub count_in_range : ℕ → ℕ → ℕ → Bool
count_in_range n low high = leb low n && leb n high

-- no NaN and no infinity
abbrev pub finite : Float → Bool
finite x = Scale.finite x

-- all of x's bits are 0
unfoldable pub plus_zero : Float → Bool
plus_zero x = eqb (to_bits binary64 x) 0

-- at most so much in size
abbrev pub load_fits_of : Float → Float → Bool
load_fits_of x most = in_range x (neg most) most

-- above 0, at most 86,400 s
abbrev pub interval_fits : Float → Bool
interval_fits dt = lt «0·0» dt && le dt «86400·0»

-- 200 to 400 K
abbrev pub temperature_fits : Float → Bool
temperature_fits t = in_range t «200·0» «400·0»

-- finite and not below 0
abbrev pub clock_fits : Float → Bool
clock_fits t = finite t && le «0·0» t
