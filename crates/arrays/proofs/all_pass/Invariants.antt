-- `arrays::all_pass` meets its contract: so many places are tested before a turn. Assumes nothing.
use Rattle.std.proofs.Common.{◌≡◌, Bool, Float}
use Rattle.arrays.specs.Places.{all_pass}
use Rattle.arrays.proofs.all_pass.Given as goal

abbrev pub invariant-loop-x : goal.invariant-loop-x
invariant-loop-x g l = (t : Float → Bool) → ((x : Float) (r : Bool) → goal.F-post g l.test x r → r ≡ t x) → l.ok ≡ all_pass t l.c l.x-index
