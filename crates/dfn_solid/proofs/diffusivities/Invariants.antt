-- `dfn_solid::diffusivities` meets its contract: k places are done after k turns. Assumes nothing.
use Rattle.std.proofs.Common.{◌≡◌, ◌-◌, ◌≤◌, replicate}
use Rattle.iterate.specs.Iterate.{first_by}
use Rattle.arrays.specs.Places.{at}
use Rattle.dfn_solid.specs.Solid.{d_solid}
use Rattle.binary64.specs.Literals.{«0·0»}
use Rattle.dfn_solid.proofs.diffusivities.Given as goal

abbrev pub invariant-loop-k : goal.invariant-loop-k
invariant-loop-k l = (l.k ≤ l.n) × (l.d ≡ first_by l.k (λ j. d_solid l.v (at l.c j)) (replicate 512 «0·0»))

abbrev pub decreases-loop-k : goal.decreases-loop-k
decreases-loop-k l = l.n - l.k
