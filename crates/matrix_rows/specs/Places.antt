-- The entries of a matrix that is kept with 32 places to a row. Definitions only.
use Rattle.std.specs.Prelude.{ℕ, ◌+◌, ◌*◌, List, replicate, Float}
use Rattle.arrays.specs.Places.{at}
use Rattle.binary64.specs.Literals.{«0·0»}

-- where row `row` has its entry of column `col`, and that entry
abbrev pub place : ℕ → ℕ → ℕ
place row col = row * 32 + col

abbrev pub entry : List Float → ℕ → ℕ → Float
entry a row col = at a (place row col)

-- +0 at k places
abbrev pub zeros : ℕ → List Float
zeros k = replicate k «0·0»
