-- `decimal_spelling::Line::put_digits` meets its contract. Assumes nothing.
use Rattle.std.proofs.Common.{◌≡◌, suc, ◌+◌, ◌-◌, refl, ◌∙◌, arith}
use Rattle.decimal_spelling.specs.Spelling.{put_all, digits_by, turn_from}
use Rattle.decimal_spelling.proofs.Turns.{digits-turn, digits_stop}
use Rattle.decimal_spelling.proofs.Line.put_digits.Goals as goal

pub loop-init : goal.loop-init
loop-init c = refl

pub returns-then-d : goal.returns-then-d
returns-then-d c =
    let d = c.next_digit-d in
    let l : suc (1100 - (c.loop.counter + 1)) ≡ 1100 - c.loop.counter = omega arith in
    rw (c.put.ensures, c.glyph_of.ensures)
    (digits_stop c.loop.self c.loop.left.rest c.loop.left.gap (1100 - (c.loop.counter + 1)) (turn_from d.new.self.rest d.new.self.gap d.result.value d.result.last) d.ensures c.if-d.true
    ∙ rw l c.loop.invariant)

pub loop-preserved : goal.loop-preserved
loop-preserved c =
    let d = c.next_digit-d in
    let l : suc (1100 - (c.loop.counter + 1)) ≡ 1100 - c.loop.counter = omega arith in
    rw (c.put.ensures, c.glyph_of.ensures)
    (digits-turn c.loop.self c.loop.left.rest c.loop.left.gap (1100 - (c.loop.counter + 1)) (turn_from d.new.self.rest d.new.self.gap d.result.value d.result.last) d.ensures c.if-d.false
    ∙ rw l c.loop.invariant)

pub returns : goal.returns
unfolding digits_by put_all
returns c =
    let e : 1100 - c.loop.counter ≡ 0 = omega arith in rw e at c.loop.invariant
