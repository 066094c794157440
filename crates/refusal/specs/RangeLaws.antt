-- What numbers that passed their range tests have met. Assumes nothing.
use Rattle.std.specs.Prelude.{ℕ, zero, suc, ◌≤◌, Bool, ◌&&◌, List, [], ◌∷◌, T, leb, get_or, Float}
use Rattle.std.proofs.Common.{leb→le}
use Rattle.std.specs.Float.Ieee.{le, of_bits}
use Rattle.std.specs.Float.Ieee.Fits.{and_l, and_r}
use Rattle.refusal.specs.Ranges.{in_range, Row, row, in_ranges, count_in_range}
use Rattle.binary64.specs.Literals.{«0·0»}

-- low <= x <= high, by its two ends
pub record Between (low x high : Float) : Type 0 where
  pub above : T (le low x)
  pub below : T (le x high)

pub between : (x low high : Float) → T (in_range x low high) → Between low x high
between x low high t = record { above = and_l (le low x) (le x high) t; below = and_r (le low x) (le x high) t }

pub count_between : (n low high : ℕ) → T (count_in_range n low high) → (low ≤ n) × (n ≤ high)
count_between n low high t = (leb→le low n (and_l (leb low n) (leb n high) t), leb→le n high (and_r (leb low n) (leb n high) t))

abbrev pub Holds : Row → Type 0
Holds r = Between r.low r.x r.high

pub ranges_first : (b : Bool) (rs : List Row) → T (in_ranges b rs) → T b
ranges_first b [] t = t
ranges_first b (r ∷ rs) t = and_l b (in_range r.x r.low r.high) (ranges_first (b && in_range r.x r.low r.high) rs t)

-- past the last row, one that holds
abbrev pub zeros : Row
zeros = row «0·0» «0·0» «0·0»

zeros_hold : Holds zeros
unfolding le of_bits
zeros_hold = record { above = tt; below = tt }

pub row_at : (b : Bool) (rs : List Row) → T (in_ranges b rs) → (k : ℕ) → Holds (get_or rs k zeros)
row_at b [] t k = zeros_hold
row_at b (r ∷ rs) t zero =
    let q = in_range r.x r.low r.high in
    between r.x r.low r.high (and_r b q (ranges_first (b && q) rs t))
row_at b (r ∷ rs) t (suc k) = row_at (b && in_range r.x r.low r.high) rs t k
