-- `setting_table::names::place_among` meets its contract. Assumes nothing.
use Rattle.std.proofs.Common.{◌≡◌, ◌-◌, arith}
use Rattle.setting_table.proofs.Ways.{none_yet, next_place}
use Rattle.setting_table.proofs.names.place_among.Goals.{then-is_named, else-is_named}
use Rattle.setting_table.proofs.names.place_among.Goals as goal

pub loop-index-init : goal.loop-index-init
loop-index-init c = (none_yet c.args.base c.args.s.now, tt)

pub loop-index-preserved : goal.loop-index-preserved
loop-index-preserved c =
    let s = c.args.s.now in
    elim c.if-is_named.branch [
      | then-is_named w ↦ (
        rw (w.found-is, next_place c.args.base c.loop-index.index s c.loop-index.auto.index, ← rw c.at-place.ensures at w.if-is_named.ensures) c.at-place.ensures,
        rw (w.found-is, c.at-place.ensures) (omega arith),
      )
      | else-is_named w ↦ (
        rw (w.found-is, next_place c.args.base c.loop-index.index s c.loop-index.auto.index, ← rw c.at-place.ensures at w.if-is_named.ensures) c.loop-index.invariant.0,
        rw w.found-is c.loop-index.invariant.1,
      )
    ]

pub returns-clause-place : goal.returns-clause-place
returns-clause-place c =
    let e : c.loop-index.index - c.args.base ≡ c.args.count = omega arith in rw e at c.loop-index.invariant.0
