-- `decimal_spelling::Line::put_tiny` meets its contract. Assumes nothing.
use Rattle.std.proofs.Common.{◌∙◌}
use Rattle.decimal_spelling.proofs.Turns.{tiny-is}
use Rattle.decimal_spelling.proofs.Line.put_tiny.Goals as goal

pub returns : goal.returns
returns c =
    let first = c.first_digit-first in
    rw (← first.ensures)
    (tiny-is c.args.self.now c.put.new.self c.put_more.new.self c.put-2.new.self c.put-3.new.self c.put_whole.new.self
    first.result.zeros first.result.digit.value first.result.digit.last first.new.self.rest first.new.self.gap
    (c.put.ensures ∙ rw c.glyph_of.ensures) c.put_more.ensures c.put-2.ensures c.put-3.ensures c.put_whole.ensures)
