-- `electrolyte_profile::advanced` meets its contract: the first `node` places are new, the others as they were. The measure is what is left of n. Assumes nothing.
use Prim.Native.Nat.{◌≤◌, ◌-◌}
use mathlib.Core.Path.{◌≡◌}
use Rattle.iterate.specs.Iterate.{first_by}
use Rattle.electrolyte_profile.specs.Step.{node_new}
use Rattle.electrolyte_profile.proofs.advanced.Given as goal

abbrev pub invariant-loop-node : goal.invariant-loop-node
invariant-loop-node l = (l.node ≤ l.n) × (l.out ≡ first_by l.node (node_new l.v l.c) l.c)

abbrev pub decreases-loop-node : goal.decreases-loop-node
decreases-loop-node l = l.n - l.node
