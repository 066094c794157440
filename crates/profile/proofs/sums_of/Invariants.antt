-- `profile::sums_of` meets its contract: i places are added after i turns. Assumes nothing.
use Rattle.std.specs.Prelude.{◌≡◌}
use Rattle.profile.specs.Sums.{sums_after}
use Rattle.profile.proofs.sums_of.Given as goal

abbrev pub invariant-loop-i : goal.invariant-loop-i
invariant-loop-i l = l.s ≡ sums_after l.c l.n l.dr l.i
