-- `decimal_spelling::sum_of` meets its contract. Assumes nothing.
use Prim.Native.Nat.{◌≤◌, ◌-◌}
use mathlib.Core.Path.{◌≡◌}
use lib.ListN.{length}
use Rattle.decimal_spelling.specs.Limbs.{sum_by, carried}
use Rattle.decimal_spelling.proofs.sum_of.Given as goal

abbrev pub invariant-loop-i : goal.invariant-loop-i
invariant-loop-i l = (l.i ≤ 20) × (l.carry ≤ 15) × (length l.sum ≡ 20) × (carried l.sum l.carry ≡ sum_by l.i l.a l.b)

abbrev pub decreases-loop-i : goal.decreases-loop-i
decreases-loop-i l = 20 - l.i
