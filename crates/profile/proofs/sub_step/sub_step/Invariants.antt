-- `profile::sub_step::sub_step` meets its contract: after the turn i the first i places are new, and the old place before is kept. The centre comes before the
-- loop, the surface after it. Assumes nothing.
use Prim.Native.Nat.{◌≤◌, ◌-◌}
use mathlib.Core.Path.{◌≡◌}
use lib.ListN.{get_or, set}
use lib.Ieee.{nan}
use Rattle.profile.proofs.InPlace.{New}
use Rattle.profile.proofs.sub_step.sub_step.Given as goal

-- the loop starts with the centre new and its old value kept: the old profile is the one with the centre put back
abbrev pub invariant-loop-i : goal.invariant-loop-i
invariant-loop-i l = (1 ≤ l.i) × ((l.i ≤ l.last) × (New l.v l.w (set l.initial.out 0 l.initial.before) l.out l.i × (l.before ≡ get_or (set l.initial.out 0 l.initial.before) (l.i - 1) nan)))

abbrev pub decreases-loop-i : goal.decreases-loop-i
decreases-loop-i l = l.last - l.i
