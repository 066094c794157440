-- `electrolyte_profile::sum` meets its contract: the places before a turn are added up. Assumes nothing.
use Rattle.std.proofs.Common.{◌≡◌}
use Rattle.electrolyte_profile.specs.Places.{sum_of}
use Rattle.electrolyte_profile.proofs.sum.Given as goal

abbrev pub invariant-loop-x : goal.invariant-loop-x
invariant-loop-x l = l.s ≡ sum_of l.c l.x-index
