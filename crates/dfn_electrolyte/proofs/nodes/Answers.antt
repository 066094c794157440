-- `dfn_electrolyte::nodes` meets its contract: i nodes are new after i turns. Assumes nothing.
use Rattle.std.proofs.Common.{◌≡◌, ◌+◌, refl, add-one, arith, rules}
use Rattle.iterate.specs.Iterate.{first_by}
use Rattle.dfn_electrolyte.specs.Electrolyte.{nodes_with}
use Rattle.dfn_electrolyte.proofs.nodes.Goals as goal

pub loop-i-init : goal.loop-i-init
unfolding first_by
loop-i-init c =
    (search rules, refl)

pub loop-i-preserved : goal.loop-i-preserved
unfolding first_by
loop-i-preserved c =
    (search rules, rw (add-one, c.clamp.ensures, c.node.ensures, c.loop-i.invariant.1))

pub returns : goal.returns
unfolding nodes_with
returns c =
    let e : c.loop-i.i ≡ c.args.neg.n + 1 + c.args.pos.n = omega arith in
    rw e at c.loop-i.invariant.1
