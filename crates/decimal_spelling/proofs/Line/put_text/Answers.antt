-- `decimal_spelling::Line::put_text` meets its contract. Assumes nothing.
use Rattle.std.proofs.Common.{sym, ◌∙◌}
use Rattle.decimal_spelling.proofs.Turns.{text-turn, text_over}
use Rattle.decimal_spelling.proofs.Line.put_text.Goals as goal

pub loop-b-preserved : goal.loop-b-preserved
loop-b-preserved c =
    rw c.put.ensures (text-turn c.loop-b.self c.args.text.now c.loop-b.b-index c.loop-b-test.true ∙ c.loop-b.invariant)

pub returns : goal.returns
returns c = sym (text_over c.loop-b.self c.args.text.now c.loop-b.b-index c.loop-b-test.false) ∙ c.loop-b.invariant
