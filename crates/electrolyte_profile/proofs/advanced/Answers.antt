-- `electrolyte_profile::advanced` meets its contract: the first `node` places are new, the others as they were. The measure is what is left of n. Assumes nothing.
use mathlib.Core.Path.{◌≡◌, refl}
use native.Mathlib.Omega.{arith}
use native.Mathlib.Numerals.{add-one}
use borrow.Author.Rules.{rules}
use Rattle.iterate.specs.Iterate.{first_by}
use Rattle.electrolyte_profile.specs.Step.{profile_new}
use Rattle.electrolyte_profile.proofs.advanced.Goals as goal

pub loop-node-init : goal.loop-node-init
unfolding first_by
loop-node-init c =
    (search rules, refl)

pub loop-node-preserved : goal.loop-node-preserved
unfolding first_by
loop-node-preserved c =
    (search rules, rw (add-one, c.node_new.ensures, c.loop-node.invariant.1))

pub returns : goal.returns
unfolding profile_new
returns c =
    let e : c.loop-node.node ≡ c.args.v.n = omega arith in
    rw e at c.loop-node.invariant.1
