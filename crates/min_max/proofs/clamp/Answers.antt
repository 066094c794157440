-- `clamp` meets its contract. Assumes nothing.
use Rattle.std.proofs.Common.{◌≡◌, cond}
use lib.Ieee.{lt}
use Rattle.min_max.proofs.clamp.Goals as goal
use Rattle.min_max.proofs.clamp.Goals.{then-y-lo, else-y-lo}

pub returns-then-y-hi : goal.returns-then-y-hi
returns-then-y-hi c =
    let first : c.if-y-lo.y ≡ cond (lt c.args.x c.args.lo) c.args.lo c.args.x =
    elim c.if-y-lo.branch [ then-y-lo w ↦ rw w.if-y-lo.true w.y-is | else-y-lo w ↦ rw w.if-y-lo.false w.y-is ] in
    rw (← first, c.if-y-hi.true)

pub returns-else-y-hi : goal.returns-else-y-hi
returns-else-y-hi c =
    let first : c.if-y-lo.y ≡ cond (lt c.args.x c.args.lo) c.args.lo c.args.x =
    elim c.if-y-lo.branch [ then-y-lo w ↦ rw w.if-y-lo.true w.y-is | else-y-lo w ↦ rw w.if-y-lo.false w.y-is ] in
    rw (← first, c.if-y-hi.false)
