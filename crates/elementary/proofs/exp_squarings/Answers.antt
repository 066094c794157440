-- `exp_squarings` meets its contract. Assumes nothing.
use mathlib.Core.Path.{◌≡◌, sym, ◌∙◌}
use Prim.Native.Nat.{◌+◌, ◌-◌}
use native.Mathlib.Omega.{arith}
use Rattle.elementary.proofs.ExpLaws.{squarings_end, squarings_step}
use Rattle.elementary.proofs.exp_squarings.Goals as goal

pub loop-preserved : goal.loop-preserved
loop-preserved c =
    let l = c.loop in
    let e : 10 - (l.counter + 1) ≡ 10 - l.counter - 1 = omega arith in
    rw e (squarings_step (10 - l.counter) l.p (omega arith) ∙ l.invariant)

pub returns : goal.returns
returns c =
    let l = c.loop in
    sym (squarings_end (10 - l.counter) l.p (omega arith)) ∙ l.invariant
