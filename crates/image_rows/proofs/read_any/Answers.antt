-- `image_rows::read_any` meets its contract: k places are read after k turns. Assumes nothing.
use Rattle.std.proofs.Common.{refl, add-one}
use Rattle.iterate.specs.Iterate.{first_by}
use Rattle.image_rows.proofs.read_any.Goals as goal

pub loop-i-init : goal.loop-i-init
unfolding first_by
loop-i-init c = refl

pub loop-i-preserved : goal.loop-i-preserved
unfolding first_by
loop-i-preserved c = rw (add-one, c.read_f64.ensures, c.loop-i.invariant)
