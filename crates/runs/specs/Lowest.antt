-- The lowest voltage of each group of 64 rows, of equals the first, the last group perhaps short: the summary that is kept beside the rows of a run. Definitions only.
use Rattle.std.specs.Prelude.{ℕ, zero, suc, ◌+◌, ◌-◌, ◌*◌, ◌/◌, ◌%◌, Bool, cond, ◌&&◌, List, eqb, leb, get_or, set, Float}
use Rattle.std.specs.Float.{nan}
use Rattle.std.specs.Float.Ieee.{lt}
use Rattle.iterate.specs.Iterate.{first_by}

-- the groups of so many rows
unfoldable pub group_count : ℕ → ℕ
group_count rows = (rows + 63) / 64

-- the voltage of a row: the first of its eight places, in the rows of both runs
abbrev pub voltage_at : List Float → ℕ → Float
voltage_at rows j = get_or rows (j * 8) nan

-- the lowest of f's values at 0 to n, of equals the first
unfoldable pub lowest_of : (ℕ → Float) → ℕ → Float
lowest_of f zero = f 0
lowest_of f (suc n) = cond (lt (f (suc n)) (lowest_of f n)) (f (suc n)) (lowest_of f n)

-- the last row of group g, counted from the group's first: 63, less in a short group
unfoldable pub last_of : ℕ → ℕ → ℕ
last_of rows g = cond (leb (g * 64 + 64) rows) 63 (rows - 1 - g * 64)

-- the lowest voltage of group g among the first n rows
abbrev pub group_lowest : List Float → ℕ → ℕ → Float
group_lowest rows n g = lowest_of (λ j. voltage_at rows (g * 64 + j)) (last_of n g)

-- THE SUMMARY of the first n rows: a place for each of their groups, the places past them as they were
unfoldable pub summary : ℕ → List Float → List Float → List Float
summary n rows l = first_by (group_count n) (group_lowest rows n) l

-- the summary l of the rows before row i with row i's voltage: it opens a group, or it is lower than its group's
unfoldable pub lowest_updated : ℕ → Float → List Float → List Float
lowest_updated i v l = cond (eqb (i % 64) 0) (set l (i / 64) v) (cond (lt v (get_or l (i / 64) nan)) (set l (i / 64) v) l)

-- ---- the places that a run is lent, of rows and of their summary
pub record Room : Type 0 where
  pub rows : ℕ
  pub lowest : ℕ

abbrev pub room_of : ℕ → ℕ → Room
room_of rows lowest = record { rows = rows; lowest = lowest }

-- enough for a row, and for the groups of all whole rows
unfoldable pub room_fits_of : Room → Bool
room_fits_of m = leb 8 m.rows && leb (group_count (m.rows / 8)) m.lowest
