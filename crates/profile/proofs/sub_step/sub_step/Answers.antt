-- `profile::sub_step::sub_step` meets its contract: after the turn i the first i places are new, and the old place before is kept. The centre comes before the
-- loop, the surface after it. Assumes nothing.
use Prim.Native.Nat.{◌-◌}
use mathlib.Core.Path.{◌≡◌, ap, ◌∙◌}
use native.Mathlib.Omega.{arith}
use lib.ListN.{get_or, set}
use lib.Ieee.{nan}
use Rattle.iterate.specs.Iterate.{first_by}
use Rattle.profile.specs.SubSteps.{node_by, sub_step_by}
use Rattle.profile.proofs.InPlace.{restored, shell_turn, kept, surface_turn}
use borrow.Author.Rules.{rules}
use Rattle.profile.proofs.sub_step.sub_step.Goals as goal

pub loop-i-init : goal.loop-i-init
unfolding first_by node_by
loop-i-init c =
    let old = c.args.c in
    let back = restored old c.moved.result in
    (search rules, (search rules, (rw (back, c.moved.ensures, c.centre_rate.ensures), rw back)))

pub loop-i-preserved : goal.loop-i-preserved
loop-i-preserved c =
    let l = c.loop-i in
    let first = c.args.c in
    let old = set (set first 0 c.moved.result) 0 (get_or first 0 nan) in
    let new = l.invariant.1.1 in (
      search rules,
      (
        search rules,
        (
          rw c.shell_node.ensures (shell_turn _ _ old l.out l.i new.0 l.before new.1 l.invariant.0 (omega arith)),
          kept _ _ old l.out l.i new.0 l.before new.1,
        ),
      ),
    )

pub returns : goal.returns
returns c =
    let a = c.args in
    let l = c.loop-i in
    let e : l.i ≡ a.v.n - 1 = omega arith in
    let centre = c.moved.result in
    let old = set (set a.c 0 centre) 0 (get_or a.c 0 nan) in
    let new = l.invariant.1.1 in
    rw (c.shell_node-2.ensures, ← e)
    (surface_turn _ _ old l.out l.i new.0 l.before new.1 (omega arith) e ∙ ap (sub_step_by a.v a.w.now) (restored a.c centre))
