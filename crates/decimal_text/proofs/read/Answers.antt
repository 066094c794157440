-- `decimal_text::read` meets its contract. Assumes nothing.
use Rattle.std.proofs.Common.{◌≡◌, Err, sym, ◌∙◌}
use Rattle.decimal_text.specs.DecimalText.{number_of}
use Rattle.std.proofs.Common.{arith}
use Rattle.std.proofs.lemmas.Grind.{common_steps}
use Rattle.decimal_text.proofs.Answers.{split_none, size_none, size_some, read_long, read_number, digits_most}
use Rattle.decimal_text.proofs.read.Goals as goal

pub returns-in_err-p : goal.returns-in_err-p
returns-in_err-p c =
    let e = split_none c.args.s.now c.in_err-p.field-0.0 (sym c.split.ensures ∙ c.in_err-p.was) in
    grind (arith, common_steps)

pub returns-then-p-gt999 : goal.returns-then-p-gt999
returns-then-p-gt999 c =
    read_long c.args.s.now c.in_ok-p.p (sym c.split.ensures ∙ c.in_ok-p.was) c.if-p-gt999.true

pub scaled-size-requires : goal.scaled-size-requires
scaled-size-requires c =
    (digits_most c.args.s.now c.in_ok-p.p (sym c.split.ensures ∙ c.in_ok-p.was), c.if-p-gt999.false)

pub returns-in_err-x : goal.returns-in_err-x
returns-in_err-x c =
    let p = c.in_ok-p.p in
    let e : Err c.in_err-x.field-0.0 ≡ number_of c.args.s.now = size_none p.negative c.scaled-size.result c.in_err-x.field-0.0 (sym c.ok_or.ensures.value ∙ c.in_err-x.was)
    ∙ rw c.scaled-size.ensures (read_number c.args.s.now p (sym c.split.ensures ∙ c.in_ok-p.was) c.if-p-gt999.false) in
    grind (arith, common_steps)

pub returns-then-p : goal.returns-then-p
returns-then-p c =
    let p = c.in_ok-p.p in
    rw c.if-p.true at (size_some p.negative c.scaled-size.result c.in_ok-x.x (sym c.ok_or.ensures.value ∙ c.in_ok-x.was))
    ∙ rw (c.scaled-size.ensures, ← c.if-p.true) (read_number c.args.s.now p (sym c.split.ensures ∙ c.in_ok-p.was) c.if-p-gt999.false)

pub returns-else-p : goal.returns-else-p
returns-else-p c =
    let p = c.in_ok-p.p in
    rw c.if-p.false at (size_some p.negative c.scaled-size.result c.in_ok-x.x (sym c.ok_or.ensures.value ∙ c.in_ok-x.was))
    ∙ rw (c.scaled-size.ensures, ← c.if-p.false) (read_number c.args.s.now p (sym c.split.ensures ∙ c.in_ok-p.was) c.if-p-gt999.false)
