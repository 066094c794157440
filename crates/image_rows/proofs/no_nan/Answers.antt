-- `image_rows::no_nan` meets its contract: k places are tested after k turns. Assumes nothing.
use Rattle.std.proofs.Common.{◌≡◌, length, refl, arith, add-one}
use Rattle.iterate.specs.Iterate.{all_below}
use Rattle.image_rows.specs.Rows.{no_nan_of}
use Rattle.image_rows.proofs.no_nan.Goals as goal

pub loop-x-init : goal.loop-x-init
unfolding all_below
loop-x-init c = refl

pub loop-x-preserved : goal.loop-x-preserved
unfolding all_below
loop-x-preserved c = rw (add-one, c.loop-x.invariant)

pub returns : goal.returns
unfolding no_nan_of
returns c =
    let e : c.loop-x.x-index ≡ length c.args.c.now = omega arith in
    rw e at c.loop-x.invariant
