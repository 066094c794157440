-- `dense::take_out` meets its contract: before turn `row`, the unknown is out of the rows above. Assumes nothing.
use mathlib.Core.Path.{◌≡◌}
use native.Mathlib.Omega.{arith}
use borrow.Author.Rules.{rules}
use Rattle.matrix_rows.specs.Loops.{range_none, range_next}
use Rattle.dense.specs.Substitution.{taken_out}
use Rattle.dense.proofs.take_out.Goals as goal

pub loop-row-init : goal.loop-row-init
loop-row-init c =
    (search rules, rw (range_none 0))

pub loop-row-preserved : goal.loop-row-preserved
unfolding taken_out
loop-row-preserved c =
    (search rules, rw (range_next 0 c.loop-row.row _ _ (omega arith), ← c.loop-row.invariant.1))

pub returns : goal.returns
returns c =
    let e : c.loop-row.row ≡ c.args.col = omega arith in
    rw e at c.loop-row.invariant.1
