-- `dfn_solid::move_particle` meets its contract: i nodes are new after i - 1 turns, the centre being put before the first. Assumes nothing.
use Rattle.std.proofs.Common.{◌≡◌, ◌-◌, add-one, arith, rules}
use Rattle.array_update.specs.ArrayUpdate.{places_by}
use Rattle.dfn_solid.specs.Solid.{node_with, clamped_node}
use Rattle.dfn_solid.proofs.NodeKinds.{one_place, inner_is, surface_is, last_place}
use Rattle.dfn_solid.proofs.move_particle.Goals as goal

pub loop-i-init : goal.loop-i-init
loop-i-init c =
    (search rules, (omega arith, λ l e. e))

pub loop-i-preserved : goal.loop-i-preserved
unfolding places_by
loop-i-preserved c =
    let s = c.args in
    let p = c.loop-i in
    let inner = inner_is s.v s.c.now s.d.now s.base p.i p.invariant.0 c.loop-i-test.true in
    (search rules, (omega arith, λ l e. rw (add-one, c.clamp-in-loop-i.ensures, c.inner_node.ensures, inner, p.invariant.1.1 l e)))

pub returns : goal.returns
unfolding node_with
returns c =
    let s = c.args in
    let h = c.requires.0 in
    let p = c.loop-i in
    let e : p.i ≡ s.v.n - 1 = omega arith in
    let l = s.out.now in
    let f = clamped_node s.v s.c.now s.d.now s.base in
    rw (
      last_place s.v s.c.now s.d.now s.base l h,
      c.clamp-2.ensures,
      c.surface_node.ensures,
      surface_is s.v s.c.now s.d.now s.base h,
      rw e at (p.invariant.1.1 l (rw (c.clamp.ensures, c.centre_node.ensures) (one_place s.base f l))),
    )
