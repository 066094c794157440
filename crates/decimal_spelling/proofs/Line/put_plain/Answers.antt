-- `decimal_spelling::Line::put_plain` meets its contract. Assumes nothing.
use Rattle.decimal_spelling.proofs.Turns.{plain-is}
use Rattle.decimal_spelling.proofs.Line.put_plain.Goals as goal

pub returns : goal.returns
returns c =
    plain-is c.args.self.now c.put_whole.new.self c.put_more.new.self c.args.left.now.rest c.take_whole-whole.new.a c.args.left.now.gap c.take_whole-whole.result c.is_below-none.result
    c.take_whole-whole.ensures.0 c.take_whole-whole.ensures.1 c.put_whole.ensures c.is_below-none.ensures c.put_more.ensures
