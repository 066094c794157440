-- `decimal_spelling::Left::next_digit` meets its contract. Assumes nothing.
use Rattle.std.proofs.Common.{arith}
use Rattle.decimal_spelling.specs.Limbs.{whole_part_of}
use Rattle.decimal_spelling.proofs.Turns.{next_up, next_plain}
use Rattle.decimal_spelling.proofs.Left.next_digit.Goals as goal

pub overflow_add-result : goal.overflow_add-result
unfolding whole_part_of
overflow_add-result c = omega (arith, c.take_whole-value.ensures.0)

pub returns-then-high-low : goal.returns-then-high-low
returns-then-high-low c =
    next_up c.args.self.now.rest c.args.self.now.gap c.times_ten.new.a c.times_ten-2.new.a c.take_whole-value.new.a c.placed-one.result c.sum_of-reach.result
    c.take_whole-value.result c.is_below-low.result c.is_below-high.result c.times_ten.ensures c.times_ten-2.ensures c.take_whole-value.ensures.0 c.take_whole-value.ensures.1
    c.is_below-low.ensures c.placed-one.ensures c.sum_of-reach.ensures c.is_below-high.ensures c.if-high-low.true

pub returns : goal.returns
returns c =
    next_plain c.args.self.now.rest c.args.self.now.gap c.times_ten.new.a c.times_ten-2.new.a c.take_whole-value.new.a c.placed-one.result c.sum_of-reach.result
    c.take_whole-value.result c.is_below-low.result c.is_below-high.result c.times_ten.ensures c.times_ten-2.ensures c.take_whole-value.ensures.0 c.take_whole-value.ensures.1
    c.is_below-low.ensures c.placed-one.ensures c.sum_of-reach.ensures c.is_below-high.ensures c.if-high-low.false
