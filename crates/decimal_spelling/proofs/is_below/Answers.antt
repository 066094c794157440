-- `decimal_spelling::is_below` meets its contract. Assumes nothing.
use Rattle.std.proofs.Common.{refl, add-one, eq-eqb, ne_eqb}
use Rattle.decimal_spelling.specs.Limbs.{below_by_of}
use Rattle.decimal_spelling.proofs.is_below.Goals.{then-x-y, else-x-y}
use Rattle.decimal_spelling.proofs.is_below.Goals as goal

pub loop-i-init : goal.loop-i-init
unfolding below_by_of
loop-i-init c = refl

pub loop-i-preserved : goal.loop-i-preserved
unfolding below_by_of
loop-i-preserved c =
    elim c.if-x-y.branch [
      | then-x-y w ↦ rw (w.below-is, add-one c.loop-i.i, ne_eqb _ _ w.if-x-y.true)
      | else-x-y w ↦ rw (w.below-is, add-one c.loop-i.i, eq-eqb _ _ w.if-x-y.false, c.loop-i.invariant)
    ]
