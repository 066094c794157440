-- `dfn_solid::diffusivities` meets its contract: k places are done after k turns. Assumes nothing.
use Rattle.std.proofs.Common.{◌≡◌, refl, add-one, arith, rules}
use Rattle.iterate.specs.Iterate.{first_by}
use Rattle.dfn_solid.specs.Solid.{d_solids}
use Rattle.dfn_solid.proofs.diffusivities.Goals as goal

pub loop-k-init : goal.loop-k-init
unfolding first_by
loop-k-init c =
    (search rules, refl)

pub loop-k-preserved : goal.loop-k-preserved
unfolding first_by
loop-k-preserved c =
    (search rules, rw (add-one, c.d_s.ensures, c.loop-k.invariant.1))

pub returns : goal.returns
unfolding d_solids
returns c =
    let e : c.loop-k.k ≡ c.args.n = omega arith in
    rw e at c.loop-k.invariant.1
