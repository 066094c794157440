-- `dfn_solid::update_solid` meets its contract: i particles are new after i turns. Assumes nothing.
use Rattle.std.proofs.Common.{◌≡◌, ◌-◌, ◌≤◌}
use Rattle.dfn_solid.specs.Solid.{particles_with, surfaces_with}
use Rattle.dfn_solid.proofs.update_solid.Given as goal

abbrev pub invariant-loop-i : goal.invariant-loop-i
invariant-loop-i l = (l.i ≤ l.count) × ((l.new ≡ particles_with l.v l.c l.d l.i) × (l.sum ≡ surfaces_with l.v l.c l.d l.i))

abbrev pub decreases-loop-i : goal.decreases-loop-i
decreases-loop-i l = l.count - l.i
