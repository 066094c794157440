-- `dfn_electrolyte::nodes` meets its contract: i nodes are new after i turns. Assumes nothing.
use Rattle.std.proofs.Common.{◌≡◌, ◌+◌, ◌-◌, ◌≤◌}
use Rattle.min_max.specs.MinMax.{clamp_of}
use Rattle.iterate.specs.Iterate.{first_by}
use Rattle.dfn_electrolyte.specs.Electrolyte.{node_with}
use Rattle.binary64.specs.Literals.{«100·0», «3000·0»}
use Rattle.dfn_electrolyte.proofs.nodes.Given as goal

abbrev pub invariant-loop-i : goal.invariant-loop-i
invariant-loop-i l = (l.i ≤ l.neg.n + 1 + l.pos.n) × (l.out ≡ first_by l.i (λ k. clamp_of (node_with l.neg l.pos l.c l.d k) «100·0» «3000·0») l.c)

abbrev pub decreases-loop-i : goal.decreases-loop-i
decreases-loop-i l = l.neg.n + 1 + l.pos.n - l.i
