-- `dfn_solid::update_solid` meets its contract: i particles are new after i turns. Assumes nothing.
use Rattle.std.proofs.Common.{◌≡◌, ℕ, ◌*◌, Bool, true, false, ◌&&◌, List, length, refl, add-one, arith, rules}
use lib.Ieee.{Float}
use Rattle.binary64.specs.Operators.{◌⊘◌, count}
use Rattle.refusal.specs.Numbers.{refusal_unless, not_finite_of}
use Rattle.refusal.specs.Ranges.{finite}
use Rattle.arrays.specs.Places.{all_finite}
use Rattle.dfn_solid.specs.Solid.{Solid, d_solids, at_least_one, particles_with, surfaces_with, solid_after, solid_update}
use Rattle.dfn_solid.specs.Room.{room, room_at}
use Rattle.dfn_solid.specs.declared.ParticleParams.{ParticleParams}
use Rattle.dfn_solid.proofs.update_solid.Goals as goal

module _ (v : ParticleParams) (c : List Float) (m : ℕ) where
  worked_out : (d out : List Float) (sum x : Float) (i j : ℕ) → i ≡ m → j ≡ at_least_one m → d ≡ d_solids v c (m * v.n)
      → out ≡ particles_with v c d i → sum ≡ surfaces_with v c d i → x ≡ count j → record { c = out; theta = sum ⊘ x } ≡ solid_after v c m
  unfolding solid_after
  worked_out d out sum x i j ei ej ed eo es ex = rw (eo, es, ex, ej, ed, ei)

  -- the answer by the number of the two tests, b of the places and f of the mean
  module _ (s : Solid) (k : ℕ) (b f : Bool) (es : s ≡ solid_after v c m) (ek : k ≡ refusal_unless (b && f) not_finite_of)
      (eb : b ≡ all_finite s.c (m * v.n)) (ef : f ≡ finite s.theta) where
    made : record { refusal = k; c_s = s.c; theta = s.theta } ≡ solid_update v c m
    unfolding solid_update
    made = rw (ek, eb, ef, es)

none_if : (b : Bool) → b ≡ true → 0 ≡ refusal_unless b not_finite_of
unfolding refusal_unless
none_if b h = rw h

eight_if : (b : Bool) → b ≡ false → not_finite_of ≡ refusal_unless b not_finite_of
unfolding refusal_unless
eight_if b h = rw h

pub diffusivities-d-requires : goal.diffusivities-d-requires
diffusivities-d-requires c =
    room c.args.count c.args.v.n (omega arith) (omega arith)

pub loop-i-init : goal.loop-i-init
unfolding particles_with surfaces_with
loop-i-init c =
    (search rules, (refl, refl))

pub overflow_mul-i : goal.overflow_mul-i
overflow_mul-i c =
    let r = room_at c.loop-i.i c.args.v.n (omega arith) (omega arith) in
    omega (arith, r)

pub move_particle-requires : goal.move_particle-requires
move_particle-requires c =
    let loop = c.loop-i in
    let args = c.args in
    (search rules, room_at loop.i args.v.n (omega arith) (omega arith))

pub overflow_mul-sum : goal.overflow_mul-sum
overflow_mul-sum c =
    let r = room_at c.loop-i.i c.args.v.n (omega arith) (omega arith) in
    omega (arith, r)

pub overflow_add-sum : goal.overflow_add-sum
overflow_add-sum c =
    let r = room_at c.loop-i.i c.args.v.n (omega arith) (omega arith) in
    omega (arith, r)

pub offset_bounds-new-i : goal.offset_bounds-new-i
offset_bounds-new-i c =
    let r = room_at c.loop-i.i c.args.v.n (omega arith) (omega arith) in
    search rules

pub bounds-new-i : goal.bounds-new-i
bounds-new-i c =
    let loop = c.loop-i in
    let args = c.args in
    let r = room_at loop.i args.v.n (omega arith) (omega arith) in
    omega (arith, r)

pub loop-i-preserved : goal.loop-i-preserved
unfolding particles_with surfaces_with
loop-i-preserved c =
    let moved = c.move_particle.ensures in
    let old = c.loop-i.invariant.1 in
    (search rules, (rw (add-one, moved, old.0), rw (add-one, moved, old.0, old.1)))

pub overflow_mul-used : goal.overflow_mul-used
overflow_mul-used c =
    let r = room c.args.count c.args.v.n (omega arith) (omega arith) in
    omega (arith, r)

pub all_finite-requires : goal.all_finite-requires
all_finite-requires c =
    let e : length c.loop-i.new ≡ 512 = search rules in
    rw e (room c.args.count c.args.v.n (omega arith) (omega arith))

pub returns-then-finite : goal.returns-then-finite
returns-then-finite c =
    let a = c.args in
    let all = c.loop-i in
    let s = worked_out a.v a.c.now a.count c.diffusivities-d.result all.new all.sum c.nearest_u64_to_f64.result all.i c.at_least_one.result
    (omega arith) c.at_least_one.ensures c.diffusivities-d.ensures all.invariant.1.0 all.invariant.1.1 c.nearest_u64_to_f64.ensures in
    made a.v a.c.now a.count _ _ c.all_finite.result c.is_finite.result s (none_if _ c.if-finite.true) c.all_finite.ensures c.is_finite.ensures

pub returns-else-finite : goal.returns-else-finite
returns-else-finite c =
    let a = c.args in
    let all = c.loop-i in
    let s = worked_out a.v a.c.now a.count c.diffusivities-d.result all.new all.sum c.nearest_u64_to_f64.result all.i c.at_least_one.result
    (omega arith) c.at_least_one.ensures c.diffusivities-d.ensures all.invariant.1.0 all.invariant.1.1 c.nearest_u64_to_f64.ensures in
    made a.v a.c.now a.count _ _ c.all_finite.result c.is_finite.result s (eight_if _ c.if-finite.false) c.all_finite.ensures c.is_finite.ensures
