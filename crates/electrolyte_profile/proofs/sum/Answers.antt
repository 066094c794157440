-- `electrolyte_profile::sum` meets its contract: the places before a turn are added up. Assumes nothing.
use Rattle.std.proofs.Common.{◌<◌, refl, add-one, arith}
use Rattle.std.proofs.lemmas.List.{get_or-take, length-take-le}
use Rattle.std.specs.Float.{nan}
use Rattle.electrolyte_profile.specs.Places.{sum_of}
use Rattle.electrolyte_profile.proofs.sum.Goals as goal

pub loop-x-init : goal.loop-x-init
unfolding sum_of
loop-x-init c = refl

pub loop-x-preserved : goal.loop-x-preserved
unfolding sum_of
loop-x-preserved c =
    let l : c.loop-x.x-index < c.args.n = omega (arith, length-take-le c.args.n c.args.c.now (omega arith)) in
    rw (add-one, ← c.loop-x.invariant, get_or-take c.args.n c.args.c.now c.loop-x.x-index nan l)
