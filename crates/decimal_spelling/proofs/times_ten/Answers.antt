-- `decimal_spelling::times_ten` meets its contract. Assumes nothing.
use Rattle.std.proofs.Common.{refl, add-one, arith, rules}
use Rattle.decimal_spelling.specs.Limbs.{ten_by}
use Rattle.decimal_spelling.proofs.times_ten.Goals as goal

pub loop-limb-init : goal.loop-limb-init
unfolding ten_by
loop-limb-init c = (search rules, search rules, refl)

pub loop-limb-preserved : goal.loop-limb-preserved
unfolding ten_by
loop-limb-preserved c = (omega arith, search rules, rw (add-one c.loop-limb.limb-index, ← c.loop-limb.invariant.2))
