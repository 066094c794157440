-- `matrix_rows::swap_rows` meets its contract: before turn k, k places of both rows are swapped and the matrix is as long as it was. Assumes nothing.
use Prim.Native.Nat.{◌≤◌, ◌-◌}
use mathlib.Core.Path.{◌≡◌}
use lib.ListN.{length}
use Rattle.matrix_rows.specs.Rows.{rows_swapped}
use Rattle.matrix_rows.proofs.swap_rows.Given as goal

abbrev pub invariant-loop-k : goal.invariant-loop-k
invariant-loop-k l = (l.k ≤ l.n) × ((length l.a ≡ length l.initial.a) × (l.a ≡ rows_swapped l.p l.q l.k l.initial.a))

abbrev pub decreases-loop-k : goal.decreases-loop-k
decreases-loop-k l = l.n - l.k
