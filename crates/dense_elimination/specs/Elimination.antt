-- Gaussian elimination with partial pivoting, as in `solve_dense` of dfn.rs: the search for a pivot, and the columns. Definitions only.
use Rattle.std.specs.Prelude.{ℕ, ◌+◌, Bool, cond, List, Float}
use Rattle.std.specs.Float.Ieee.{lt}
use Rattle.min_max.specs.MinMax.{abs_of}
use Rattle.refusal.specs.Numbers.{singular}
use Rattle.matrix_rows.specs.Loops.{for_range, Tried, outcome, try_range}
use Rattle.matrix_rows.specs.Places.{entry}
use Rattle.matrix_columns.specs.Columns.{System, pivot_taken}
use Rattle.dense_elimination.specs.declared.Pivot.{Pivot}
use Rattle.binary64.specs.Literals.{«1e-14»}

-- ---- the search for a pivot

-- a row and the absolute value of its entry in column `col`
unfoldable pub candidate : List Float → ℕ → ℕ → Pivot
candidate a row col = record { row = row; val = abs_of (entry a row col) }

-- `if v > max_val`: of equals the first, and a NaN is neither above nor passed
unfoldable pub larger : Pivot → Pivot → Pivot
larger p q = cond (lt p.val q.val) q p

-- the largest of column `col` in the rows from `col` on, row n excluded
unfoldable pub pivot_of : List Float → ℕ → ℕ → Pivot
pivot_of a col n = for_range (col + 1) n (λ row p. larger p (candidate a row col)) (candidate a col col)

-- below 1e-14, which a NaN is not
abbrev pub tiny : Float → Bool
tiny v = lt v «1e-14»

-- ---- elimination

-- a column, by its pivot
unfoldable pub column_with : ℕ → ℕ → System → Pivot → Tried System
column_with n col s p = cond (tiny p.val) (outcome singular s) (outcome 0 (pivot_taken n col p.row s))

unfoldable pub column_done : ℕ → ℕ → System → Tried System
column_done n col s = column_with n col s (pivot_of s.matrix col n)

-- `for col in 0..n`, left by a column without a pivot
unfoldable pub eliminated : ℕ → System → Tried System
eliminated n s = try_range n (column_done n) s
