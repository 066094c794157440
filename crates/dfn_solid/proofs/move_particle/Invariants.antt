-- `dfn_solid::move_particle` meets its contract: i nodes are new after i - 1 turns, the centre being put before the first. Assumes nothing.
use Rattle.std.proofs.Common.{◌≡◌, ◌-◌, ◌≤◌, List}
use lib.Ieee.{Float}
use Rattle.array_update.specs.ArrayUpdate.{places_by}
use Rattle.dfn_solid.specs.Solid.{clamped_node}
use Rattle.dfn_solid.proofs.move_particle.Given as goal

abbrev pub invariant-loop-i : goal.invariant-loop-i
invariant-loop-i l = (1 ≤ l.i) × ((l.i ≤ l.v.n - 1) × ((xs : List Float) → l.initial.out ≡ places_by l.base 1 (clamped_node l.v l.c l.d l.base) xs → l.out ≡ places_by l.base l.i (clamped_node l.v l.c l.d l.base) xs))

abbrev pub decreases-loop-i : goal.decreases-loop-i
decreases-loop-i l = l.v.n - 1 - l.i
