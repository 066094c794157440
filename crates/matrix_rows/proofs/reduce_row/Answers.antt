-- `matrix_rows::reduce_row` meets its contract: before turn k, the row is reduced up to column k and the matrix is as long as it was. Assumes nothing.
use mathlib.Core.Path.{◌≡◌, refl}
use native.Mathlib.Omega.{arith}
use lib.ListN.{length-set}
use borrow.Author.Rules.{rules}
use Rattle.matrix_rows.specs.Loops.{range_none, range_next}
use Rattle.matrix_rows.specs.Rows.{row_reduced}
use Rattle.matrix_rows.proofs.reduce_row.Goals as goal

pub loop-k-init : goal.loop-k-init
unfolding row_reduced
loop-k-init c =
    (search rules, (search rules, (refl, rw (range_none c.args.col))))

pub loop-k-preserved : goal.loop-k-preserved
unfolding row_reduced
loop-k-preserved c =
    let loop = c.loop-k in
    let args = c.args in
    let turn = loop in
    (search rules, (search rules, (rw length-set turn.invariant.1.1.0, rw (range_next args.col turn.k _ _ (omega arith), ← turn.invariant.1.1.1))))

pub shape_of-a : goal.shape_of-a
shape_of-a c =
    c.loop-k.invariant.1.1.0

pub returns : goal.returns
returns c =
    let e : c.loop-k.k ≡ c.args.n = omega arith in
    rw e at c.loop-k.invariant.1.1.1
