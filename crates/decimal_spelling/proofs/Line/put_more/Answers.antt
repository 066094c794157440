-- `decimal_spelling::Line::put_more` meets its contract. Assumes nothing.
use Rattle.std.proofs.Common.{◌∙◌}
use Rattle.decimal_spelling.specs.Spelling.{more_text, put_all}
use Rattle.decimal_spelling.proofs.Line.put_more.Goals as goal

pub returns-then-not-last : goal.returns-then-not-last
unfolding more_text put_all
returns-then-not-last c = rw c.if-not-last.true (c.put_digits.ensures ∙ rw c.put.ensures)

pub returns-else-not-last : goal.returns-else-not-last
unfolding more_text put_all
returns-else-not-last c = rw c.if-not-last.false
