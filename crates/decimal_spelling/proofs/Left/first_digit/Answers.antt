-- `decimal_spelling::Left::first_digit` meets its contract. Assumes nothing.
use Rattle.std.proofs.Common.{◌≡◌, suc, ◌+◌, ◌-◌, ◌∙◌, arith}
use Rattle.decimal_spelling.specs.Spelling.{turn_from, pass_zeros}
use Rattle.decimal_spelling.proofs.Turns.{zeros-turn, zeros_stop}
use Rattle.decimal_spelling.proofs.Left.first_digit.Goals as goal

pub returns-then-digit : goal.returns-then-digit
returns-then-digit c =
    let d = c.next_digit-digit in
    let l : suc (1100 - (c.loop-passed.passed + 1)) ≡ 1100 - c.loop-passed.passed = omega arith in
    zeros_stop (1100 - (c.loop-passed.passed + 1)) c.loop-passed.passed c.loop-passed.self.rest c.loop-passed.self.gap (turn_from d.new.self.rest d.new.self.gap d.result.value d.result.last) d.ensures c.if-digit.true
    ∙ rw l c.loop-passed.invariant

pub loop-passed-preserved : goal.loop-passed-preserved
loop-passed-preserved c =
    let d = c.next_digit-digit in
    let l : suc (1100 - (c.loop-passed.passed + 1)) ≡ 1100 - c.loop-passed.passed = omega arith in
    zeros-turn (1100 - (c.loop-passed.passed + 1)) c.loop-passed.passed c.loop-passed.self.rest c.loop-passed.self.gap (turn_from d.new.self.rest d.new.self.gap d.result.value d.result.last) d.ensures c.if-digit.false
    ∙ rw l c.loop-passed.invariant

pub returns : goal.returns
unfolding pass_zeros
returns c =
    let e : c.loop-passed.passed ≡ 1100 = omega arith in rw e at c.loop-passed.invariant
