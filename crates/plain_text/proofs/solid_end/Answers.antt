-- `plain_text::solid_end` meets its contract. Assumes nothing.
use Rattle.std.proofs.Common.{◌≡◌, length, rules, arith, add-one}
use Rattle.plain_text.specs.Text.{solid_end}
use Rattle.plain_text.proofs.Ahead.{solid_le}
use Rattle.plain_text.proofs.solid_end.Goals.{then-not-is_blank, else-not-is_blank}
use Rattle.plain_text.proofs.solid_end.Goals as goal

pub loop-i-init : goal.loop-i-init
unfolding solid_end
loop-i-init c = search rules

pub loop-i-preserved : goal.loop-i-preserved
unfolding solid_end
loop-i-preserved c =
    elim c.if-not-is_blank.branch [
      | then-not-is_blank w ↦ rw (w.end-is, add-one c.loop-i.i, ← w.if-not-is_blank.ensures)
      | else-not-is_blank w ↦ rw (w.end-is, add-one c.loop-i.i, ← w.if-not-is_blank.ensures, c.loop-i.invariant)
    ]

pub returns : goal.returns
returns c =
    let e : c.loop-i.i ≡ length c.args.s.now = omega arith in
    let q = rw e at c.loop-i.invariant in
    (q, rw q (solid_le (length c.args.s.now) c.args.s.now))
