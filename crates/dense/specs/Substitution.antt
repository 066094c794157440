-- Back substitution, column by column from the last to the first, as in `solve_dense` of dfn.rs. Definitions only.
use Rattle.std.specs.Prelude.{ℕ, ◌-◌, cond, List, set, Float}
use Rattle.binary64.specs.Operators.{◌⊖◌, ◌⊗◌, ◌⊘◌}
use Rattle.min_max.specs.MinMax.{abs_of}
use Rattle.refusal.specs.Numbers.{singular}
use Rattle.matrix_rows.specs.Loops.{for_range, Tried, outcome, try_range}
use Rattle.arrays.specs.Places.{at}
use Rattle.matrix_rows.specs.Places.{entry}
use Rattle.dense_elimination.specs.Elimination.{tiny}

-- `x[row] -= a[row][col] * x[col]`
unfoldable pub taken_out : List Float → ℕ → ℕ → List Float → List Float
taken_out a col row x = set x row (at x row ⊖ entry a row col ⊗ at x col)

-- `x[col] /= a[col][col]`, then the unknown is taken out of the rows above
unfoldable pub column_solved : List Float → ℕ → List Float → Tried (List Float)
column_solved a col x =
    cond (tiny (abs_of (entry a col col))) (outcome singular x)
    (outcome 0 (for_range 0 col (taken_out a col) (set x col (at x col ⊘ entry a col col))))

-- `for col in (0..n).rev()`. A pivot's row is not touched after its column, so this second test should find nothing; no law relies on that.
unfoldable pub substituted : List Float → ℕ → List Float → Tried (List Float)
substituted a n x = try_range n (λ k. column_solved a (n - 1 - k)) x
