-- `arrays::all_pass` meets its contract: so many places are tested before a turn. Assumes nothing.
use Rattle.std.proofs.Common.{refl, add-one}
use Rattle.iterate.specs.Iterate.{all_below}
use Rattle.arrays.proofs.all_pass.Goals as goal

pub loop-x-init : goal.loop-x-init
unfolding all_below
loop-x-init g c = λ t h. refl

pub loop-x-preserved : goal.loop-x-preserved
unfolding all_below
loop-x-preserved g c = λ t h. rw (add-one, h _ _ c.test-ok.ensures, c.loop-x.invariant t h)
