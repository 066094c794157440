-- `matrix_rows::reduce_row` meets its contract: before turn k, the row is reduced up to column k and the matrix is as long as it was. Assumes nothing.
use Prim.Native.Nat.{◌≤◌, ◌-◌}
use mathlib.Core.Path.{◌≡◌}
use lib.ListN.{length}
use Rattle.matrix_rows.specs.Rows.{row_reduced}
use Rattle.matrix_rows.proofs.reduce_row.Given as goal

abbrev pub invariant-loop-k : goal.invariant-loop-k
invariant-loop-k l = (l.col ≤ l.k) × ((l.k ≤ l.n) × ((length l.a ≡ length l.initial.a) × (l.a ≡ row_reduced l.row l.col l.k l.f l.initial.a)))

abbrev pub decreases-loop-k : goal.decreases-loop-k
decreases-loop-k l = l.n - l.k
