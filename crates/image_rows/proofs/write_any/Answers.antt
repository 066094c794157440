-- `image_rows::write_any` meets its contract: k places are written after k turns. Assumes nothing.
use Rattle.std.proofs.Common.{refl, add-one}
use Rattle.codec.specs.Words.{put_places}
use Rattle.image_rows.proofs.write_any.Goals as goal

pub loop-i-init : goal.loop-i-init
unfolding put_places
loop-i-init c = refl

pub loop-i-preserved : goal.loop-i-preserved
unfolding put_places
loop-i-preserved c = rw (add-one, c.write_f64.ensures, c.loop-i.invariant)
