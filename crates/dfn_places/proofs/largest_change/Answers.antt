-- `dfn_places::largest_change` meets its contract: as many places are seen as turns are made. Assumes nothing.
use Rattle.std.proofs.Common.{◌<◌, length, take, refl, add-one, arith, rules}
use Rattle.std.proofs.lemmas.List.{get_or-take, length-take-le, length_push}
use Rattle.std.proofs.lemmas.Slice.Zip.{zip_turn}
use lib.Ieee.{nan}
use Rattle.dfn_places.specs.Places.{change_after}
use Rattle.dfn_places.proofs.largest_change.Goals as goal

pub loop-a-init : goal.loop-a-init
unfolding change_after
loop-a-init c = refl

pub loop-a-preserved : goal.loop-a-preserved
unfolding change_after
loop-a-preserved c =
    let s = c.args in
    let i = length c.loop-a.yielded in
    let t = zip_turn (take s.n s.new.now) (take s.n s.old.now) c.loop-a.yielded c.into_iter-a-iterator.result c.loop-a.a-iterator c.next.new.self c.next.result (search rules) (search rules) c.loop-a.yielded_by (c.in-Some.a, c.in-Some.b) c.in-Some.is c.next.ensures.steps in
    let l : i < s.n = omega (arith, length-take-le s.n s.new.now (omega arith), t.0) in
    rw (
      length_push c.loop-a.yielded (c.in-Some.a, c.in-Some.b),
      add-one,
      c.max-most.ensures,
      c.abs.ensures,
      t.2 nan,
      t.3 nan,
      get_or-take s.n s.new.now i nan l,
      get_or-take s.n s.old.now i nan l,
      c.loop-a.invariant,
    )
