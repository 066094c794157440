-- `decimal_spelling::times_ten` meets its contract. Assumes nothing.
use Rattle.std.proofs.Common.{◌≡◌, ◌≤◌, length}
use Rattle.decimal_spelling.specs.Limbs.{ten_by, carried}
use Rattle.decimal_spelling.proofs.times_ten.Given as goal

abbrev pub invariant-loop-limb : goal.invariant-loop-limb
invariant-loop-limb l = (l.carry ≤ 15) × (length l.a ≡ 20) × (carried l.a l.carry ≡ ten_by l.limb-index l.initial.a)
