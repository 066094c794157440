-- `dense::load_row` meets its contract: before turn k, k places of the row are copied and the copy is as long as it was. Assumes nothing.
use Prim.Native.Nat.{◌≤◌, ◌-◌}
use mathlib.Core.Path.{◌≡◌, refl}
use native.Mathlib.Omega.{arith}
use lib.ListN.{length, length-set}
use borrow.Author.Rules.{rules}
use Rattle.matrix_rows.specs.Loops.{for_range, range_none, range_next}
use Rattle.dense.specs.Solve.{place_loaded, row_loaded}
use Rattle.dense.proofs.load_row.Given as goal

abbrev pub invariant-loop-k : goal.invariant-loop-k
invariant-loop-k l = (l.k ≤ l.n) × ((length l.m ≡ length l.initial.m) × (l.m ≡ for_range 0 l.k (place_loaded l.a l.n l.row) l.initial.m))

abbrev pub decreases-loop-k : goal.decreases-loop-k
decreases-loop-k l = l.n - l.k
