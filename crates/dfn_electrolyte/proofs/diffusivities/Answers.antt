-- `dfn_electrolyte::diffusivities` meets its contract: i nodes are done after i turns. Assumes nothing.
use Rattle.std.proofs.Common.{◌≡◌, refl, add-one, arith, rules}
use Rattle.iterate.specs.Iterate.{first_by}
use Rattle.dfn_electrolyte.specs.Electrolyte.{d_effs}
use Rattle.dfn_electrolyte.proofs.diffusivities.Goals as goal

pub loop-i-init : goal.loop-i-init
unfolding first_by
loop-i-init c =
    (search rules, refl)

pub loop-i-preserved : goal.loop-i-preserved
unfolding first_by
loop-i-preserved c =
    (search rules, rw (add-one, c.d_eff_e.ensures, c.loop-i.invariant.1))

pub returns : goal.returns
unfolding d_effs
returns c =
    let e : c.loop-i.i ≡ c.args.n = omega arith in
    rw e at c.loop-i.invariant.1
