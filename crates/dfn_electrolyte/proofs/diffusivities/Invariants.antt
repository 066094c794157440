-- `dfn_electrolyte::diffusivities` meets its contract: i nodes are done after i turns. Assumes nothing.
use Rattle.std.proofs.Common.{◌≡◌, ◌-◌, ◌≤◌, replicate}
use Rattle.iterate.specs.Iterate.{first_by}
use Rattle.arrays.specs.Places.{at}
use Rattle.dfn_electrolyte.specs.Electrolyte.{d_eff_of}
use Rattle.binary64.specs.Literals.{«0·0»}
use Rattle.dfn_electrolyte.proofs.diffusivities.Given as goal

abbrev pub invariant-loop-i : goal.invariant-loop-i
invariant-loop-i l = (l.i ≤ l.n) × (l.d ≡ first_by l.i (λ k. d_eff_of l.s (at l.c k)) (replicate 33 «0·0»))

abbrev pub decreases-loop-i : goal.decreases-loop-i
decreases-loop-i l = l.n - l.i
