-- `matrix_columns::clear_column` meets its contract: before turn `row`, the rows above it are cleared and the matrix is as long as it was. Assumes nothing.
use Prim.Native.Nat.{◌≤◌, ◌+◌, ◌-◌}
use mathlib.Core.Path.{◌≡◌}
use lib.ListN.{length}
use Rattle.matrix_rows.specs.Loops.{for_range}
use Rattle.matrix_columns.specs.Columns.{system, row_cleared}
use Rattle.matrix_columns.proofs.clear_column.Given as goal

abbrev pub invariant-loop-row : goal.invariant-loop-row
invariant-loop-row l = (l.col + 1 ≤ l.row) × ((l.row ≤ l.n) × ((length l.a ≡ length l.initial.a) × (system l.a l.x ≡ for_range (l.col + 1) l.row (row_cleared l.n l.col l.pivot) (system l.initial.a l.initial.x))))

abbrev pub decreases-loop-row : goal.decreases-loop-row
decreases-loop-row l = l.n - l.row
