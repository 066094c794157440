-- `dense::load_matrix` meets its contract: before turn `row`, so many rows are copied and the copy is as long as it was. Assumes nothing.
use Prim.Native.Nat.{◌≤◌, ◌-◌}
use mathlib.Core.Path.{◌≡◌}
use lib.ListN.{length}
use Rattle.matrix_rows.specs.Loops.{for_range}
use Rattle.dense.specs.Solve.{row_loaded}
use Rattle.dense.proofs.load_matrix.Given as goal

abbrev pub invariant-loop-row : goal.invariant-loop-row
invariant-loop-row l = (l.row ≤ l.n) × ((length l.m ≡ length l.initial.m) × (l.m ≡ for_range 0 l.row (row_loaded l.a l.n) l.initial.m))

abbrev pub decreases-loop-row : goal.decreases-loop-row
decreases-loop-row l = l.n - l.row
