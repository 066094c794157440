-- `decimal_spelling::Line::put_size` meets its contract. Assumes nothing.
use Rattle.decimal_spelling.specs.Spelling.{size_text}
use Rattle.decimal_spelling.proofs.Line.put_size.Goals as goal

pub returns-then-x : goal.returns-then-x
unfolding size_text
returns-then-x c =
    rw (c.if-x.true, ← c.to_bits.ensures, ← c.parts_of-p.ensures.0, ← c.placed.ensures, ← c.half_gap.ensures) c.put_tiny.ensures

pub returns-else-x : goal.returns-else-x
unfolding size_text
returns-else-x c =
    rw (c.if-x.false, ← c.to_bits.ensures, ← c.parts_of-p.ensures.0, ← c.placed.ensures, ← c.half_gap.ensures) c.put_plain.ensures
