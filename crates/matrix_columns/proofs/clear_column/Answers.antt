-- `matrix_columns::clear_column` meets its contract: before turn `row`, the rows above it are cleared and the matrix is as long as it was. Assumes nothing.
use Prim.Native.Nat.{◌+◌}
use mathlib.Core.Path.{◌≡◌, refl, ◌∙◌}
use native.Mathlib.Omega.{arith}
use borrow.Author.Rules.{rules}
use Rattle.matrix_rows.specs.Loops.{range_none, range_next}
use Rattle.matrix_columns.specs.Columns.{row_less, row_cleared, column_cleared}
use Rattle.matrix_columns.proofs.clear_column.Goals as goal

pub loop-row-init : goal.loop-row-init
loop-row-init c =
    (search rules, (search rules, (refl, rw (range_none (c.args.col + 1)))))

pub loop-row-preserved : goal.loop-row-preserved
unfolding row_cleared row_less
loop-row-preserved c =
    let a = c.args in
    let turn = c.loop-row in
    let reduced = c.reduce_row in
    (search rules, (search rules, (reduced.auto.a ∙ turn.invariant.1.1.0, rw (range_next (a.col + 1) turn.row _ _ turn.invariant.0, ← turn.invariant.1.1.1, reduced.ensures))))

pub shape_of-a : goal.shape_of-a
shape_of-a c =
    c.loop-row.invariant.1.1.0

pub returns : goal.returns
unfolding column_cleared
returns c =
    let e : c.loop-row.row ≡ c.args.n = omega arith in
    rw e at c.loop-row.invariant.1.1.1
