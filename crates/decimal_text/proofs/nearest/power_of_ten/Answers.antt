-- `decimal_text::nearest::power_of_ten` meets its contract: after i turns the product is the i-th. Assumes nothing.
use Rattle.std.proofs.Common.{refl, add-one}
use Rattle.decimal_text.specs.Nearest.{tens}
use Rattle.decimal_text.proofs.nearest.power_of_ten.Goals as goal

pub loop-init : goal.loop-init
unfolding tens
loop-init c = refl

pub loop-preserved : goal.loop-preserved
unfolding tens
loop-preserved c = rw (add-one c.loop.counter, c.loop.invariant)
