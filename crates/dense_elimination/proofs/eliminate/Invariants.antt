-- `dense_elimination::eliminate` meets its contract. Before a turn of the columns, those before it are eliminated, none was refused and the matrix is as long as it was;
-- before a turn of the search, p is the pivot of the rows before it, and once every row is looked at it is not below the limit. Assumes nothing.
use Prim.Native.Nat.{◌≤◌, ◌-◌}
use mathlib.Core.Path.{◌≡◌}
use mathlib.Core.Bool.{false}
use lib.ListN.{length}
use Rattle.matrix_rows.specs.Loops.{outcome, try_range}
use Rattle.matrix_columns.specs.Columns.{system}
use Rattle.dense_elimination.specs.Elimination.{tiny, pivot_of, column_done}
use Rattle.std.specs.Prelude.{Ok}
use Rattle.dense_elimination.proofs.eliminate.Given as goal

abbrev pub invariant-loop-row : goal.invariant-loop-row
invariant-loop-row l = (l.col ≤ l.row) × ((l.row ≤ l.n) × ((l.tested ≡ Ok tt) × ((l.p ≡ pivot_of l.a l.col l.row) × (l.row ≡ l.n → tiny l.p.val ≡ false))))

abbrev pub decreases-loop-row : goal.decreases-loop-row
decreases-loop-row l = l.n - l.row

abbrev pub invariant-columns : goal.invariant-columns
invariant-columns l = (l.col ≤ l.n) × ((l.tested ≡ Ok tt) × ((length l.a ≡ length l.initial.a) × (outcome 0 (system l.a l.x) ≡ try_range l.col (column_done l.n) (system l.initial.a l.initial.x))))

abbrev pub decreases-columns : goal.decreases-columns
decreases-columns l = l.n - l.col
