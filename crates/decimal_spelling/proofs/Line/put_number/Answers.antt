-- `decimal_spelling::Line::put_number` meets its contract. Assumes nothing.
use Rattle.std.proofs.Common.{◌≡◌, cond, ◌∙◌}
use Rattle.decimal_spelling.specs.Spelling.{spelling, put_byte, put_all, size_text}
use Rattle.decimal_spelling.proofs.Turns.{sign_is}
use Rattle.decimal_spelling.proofs.Line.put_number.Goals.{then-is_negative, else-is_negative}
use Rattle.decimal_spelling.proofs.Line.put_number.Goals as goal

pub returns-after-is_negative : goal.returns-after-is_negative
unfolding spelling
returns-after-is_negative c =
    let e : c.if-is_negative.self ≡ cond c.is_negative.result (put_byte c.args.self.now 45) c.args.self.now =
    elim c.if-is_negative.branch [
      | then-is_negative w ↦ w.self-is ∙ rw w.if-is_negative.true w.put.ensures
      | else-is_negative w ↦ w.self-is ∙ rw w.if-is_negative.false
    ] in
    rw (← c.abs-size.ensures, c.if-size.true, ← c.is_negative.ensures)
    (c.put_size.ensures ∙ rw e (sign_is c.args.self.now c.is_negative.result (size_text c.abs-size.result)))

pub returns-else-size : goal.returns-else-size
unfolding spelling put_all
returns-else-size c = rw (← c.abs-size.ensures, c.if-size.false) c.put-else-size.ensures
