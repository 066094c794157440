-- `dfn_places::largest_change` meets its contract: as many places are seen as turns are made. Assumes nothing.
use Rattle.std.proofs.Common.{◌≡◌, length}
use Rattle.dfn_places.specs.Places.{change_after}
use Rattle.dfn_places.proofs.largest_change.Given as goal

abbrev pub invariant-loop-a : goal.invariant-loop-a
invariant-loop-a l = l.most ≡ change_after l.new l.old (length l.yielded)
