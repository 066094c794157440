-- `setting_table::names::is_named` meets its contract. Assumes nothing.
use Rattle.std.proofs.Common.{◌≡◌, refl, add-one, arith}
use Rattle.iterate.specs.Iterate.{all_below}
use Rattle.setting_table.specs.Names.{is_named}
use Rattle.setting_table.proofs.names.is_named.Goals as goal

pub loop-j-init : goal.loop-j-init
unfolding all_below
loop-j-init c = refl

pub loop-j-preserved : goal.loop-j-preserved
unfolding all_below
loop-j-preserved c =
    rw (add-one c.loop-j.j, c.padded_at.ensures, c.name-name.ensures c.loop-j.j c.loop-j-test.true, c.loop-j.invariant)

pub returns : goal.returns
unfolding is_named
returns c =
    let e : c.loop-j.j ≡ 12 = omega arith in rw (c.loop-j.invariant, e)
