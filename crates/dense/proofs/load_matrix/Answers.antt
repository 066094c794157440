-- `dense::load_matrix` meets its contract: before turn `row`, so many rows are copied and the copy is as long as it was. Assumes nothing.
use mathlib.Core.Path.{◌≡◌, refl, ◌∙◌}
use native.Mathlib.Omega.{arith}
use borrow.Author.Rules.{rules}
use Rattle.matrix_rows.specs.Loops.{range_none, range_next}
use Rattle.dense.specs.Solve.{matrix_loaded}
use Rattle.dense.proofs.Sizes.{row_fits}
use Rattle.dense.proofs.load_matrix.Goals as goal

pub loop-row-init : goal.loop-row-init
loop-row-init c =
    (search rules, (refl, rw (range_none 0)))

pub load_row-requires : goal.load_row-requires
load_row-requires c =
    let fits = row_fits c.loop-row.row c.args.n c.loop-row-test.true in
    (search rules, (search rules, (search rules, omega (arith, fits))))

pub loop-row-preserved : goal.loop-row-preserved
loop-row-preserved c =
    let turn = c.loop-row in
    let loaded = c.load_row in
    (search rules, (loaded.auto.m ∙ turn.invariant.1.0, rw (range_next 0 turn.row _ _ (omega arith), loaded.ensures, ← turn.invariant.1.1)))

pub shape_of-m : goal.shape_of-m
shape_of-m c =
    c.loop-row.invariant.1.0

pub returns : goal.returns
unfolding matrix_loaded
returns c =
    let e : c.loop-row.row ≡ c.args.n = omega arith in
    rw e at c.loop-row.invariant.1.1
