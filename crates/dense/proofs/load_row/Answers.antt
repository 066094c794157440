-- `dense::load_row` meets its contract: before turn k, k places of the row are copied and the copy is as long as it was. Assumes nothing.
use Prim.Native.Nat.{◌≤◌, ◌-◌}
use mathlib.Core.Path.{◌≡◌, refl}
use native.Mathlib.Omega.{arith}
use lib.ListN.{length, length-set}
use borrow.Author.Rules.{rules}
use Rattle.matrix_rows.specs.Loops.{for_range, range_none, range_next}
use Rattle.dense.specs.Solve.{place_loaded, row_loaded}
use Rattle.dense.proofs.load_row.Goals as goal

pub loop-k-init : goal.loop-k-init
loop-k-init c =
    (search rules, (refl, rw (range_none 0)))

pub loop-k-preserved : goal.loop-k-preserved
unfolding place_loaded
loop-k-preserved c =
    let turn = c.loop-k in
    (search rules, (rw length-set turn.invariant.1.0, rw (range_next 0 turn.k _ _ (omega arith), ← turn.invariant.1.1)))

pub shape_of-m : goal.shape_of-m
shape_of-m c =
    c.loop-k.invariant.1.0

pub returns : goal.returns
unfolding row_loaded
returns c =
    let e : c.loop-k.k ≡ c.args.n = omega arith in
    rw e at c.loop-k.invariant.1.1
