-- `dense::load_side` meets its contract: before turn k, k places are copied. Assumes nothing.
use Prim.Native.Nat.{◌≤◌, ◌-◌}
use mathlib.Core.Path.{◌≡◌, refl}
use native.Mathlib.Omega.{arith}
use native.Mathlib.Numerals.{add-one}
use borrow.Author.Rules.{rules}
use Rattle.iterate.specs.Iterate.{first_by}
use Rattle.arrays.specs.Places.{at}
use Rattle.dense.proofs.load_side.Goals as goal

pub loop-k-init : goal.loop-k-init
unfolding first_by
loop-k-init c =
    (search rules, refl)

pub loop-k-preserved : goal.loop-k-preserved
unfolding first_by
loop-k-preserved c =
    (search rules, rw (add-one, c.loop-k.invariant.1))

pub returns : goal.returns
returns c =
    let e : c.loop-k.k ≡ c.args.n = omega arith in
    rw e at c.loop-k.invariant.1
