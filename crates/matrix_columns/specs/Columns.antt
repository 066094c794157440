-- A column cleared by its pivot, on both sides of a system, as in `solve_dense` of dfn.rs. Definitions only.
use Rattle.std.specs.Prelude.{ℕ, ◌+◌, List, set, Float}
use Rattle.binary64.specs.Operators.{◌⊖◌, ◌⊗◌, ◌⊘◌}
use Rattle.matrix_rows.specs.Loops.{for_range}
use Rattle.arrays.specs.Places.{at}
use Rattle.matrix_rows.specs.Places.{entry}
use Rattle.matrix_rows.specs.Rows.{swapped, rows_swapped, row_reduced}

-- a matrix and its right side
pub record System : Type 0 where
  pub matrix : List Float
  pub side : List Float

abbrev pub system : List Float → List Float → System
system a x = record { matrix = a; side = x }

-- row `row` less f times row `col`, on both sides
unfoldable pub row_less : ℕ → ℕ → ℕ → Float → System → System
row_less n col row f s =
    system (row_reduced row col n f s.matrix) (set s.side row (at s.side row ⊖ f ⊗ at s.side col))

-- row `row` so that its entry of column `col` is cleared
unfoldable pub row_cleared : ℕ → ℕ → Float → ℕ → System → System
row_cleared n col pivot row s = row_less n col row (entry s.matrix row col ⊘ pivot) s

-- every row below row `col`
unfoldable pub column_cleared : ℕ → ℕ → System → System
column_cleared n col s = for_range (col + 1) n (row_cleared n col (entry s.matrix col col)) s

-- row `row` exchanged with row `col`. The Rust leaves the exchange out where the two rows are one; it changes nothing then.
abbrev pub rows_exchanged : ℕ → ℕ → ℕ → System → System
rows_exchanged n col row s = system (rows_swapped col row n s.matrix) (swapped col row s.side)

-- row `row` exchanged with row `col`, then the column cleared
unfoldable pub pivot_taken : ℕ → ℕ → ℕ → System → System
pivot_taken n col row s = column_cleared n col (rows_exchanged n col row s)
