-- `decimal_spelling::is_below` meets its contract. Assumes nothing.
use Rattle.std.proofs.Common.{◌≡◌}
use Rattle.decimal_spelling.specs.Limbs.{below_by_of}
use Rattle.decimal_spelling.proofs.is_below.Given as goal

abbrev pub invariant-loop-i : goal.invariant-loop-i
invariant-loop-i l = l.below ≡ below_by_of l.i l.a l.b
