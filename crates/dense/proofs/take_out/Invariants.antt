-- `dense::take_out` meets its contract: before turn `row`, the unknown is out of the rows above. Assumes nothing.
use Prim.Native.Nat.{◌≤◌, ◌-◌}
use mathlib.Core.Path.{◌≡◌}
use Rattle.matrix_rows.specs.Loops.{for_range}
use Rattle.dense.specs.Substitution.{taken_out}
use Rattle.dense.proofs.take_out.Given as goal

abbrev pub invariant-loop-row : goal.invariant-loop-row
invariant-loop-row l = (l.row ≤ l.col) × (l.x ≡ for_range 0 l.row (taken_out l.a l.col) l.initial.x)

abbrev pub decreases-loop-row : goal.decreases-loop-row
decreases-loop-row l = l.col - l.row
