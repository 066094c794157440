-- `image_rows::no_nan` meets its contract: k places are tested after k turns. Assumes nothing.
use Rattle.std.proofs.Common.{◌≡◌, get_or}
use Rattle.std.specs.Float.{nan}
use Rattle.std.specs.Float.Ieee.{eq}
use Rattle.iterate.specs.Iterate.{all_below}
use Rattle.image_rows.proofs.no_nan.Given as goal

abbrev pub invariant-loop-x : goal.invariant-loop-x
invariant-loop-x l = l.ok ≡ all_below l.x-index (λ k. eq (get_or l.c k nan) (get_or l.c k nan))
