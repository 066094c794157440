-- `decimal_spelling::half_gap` meets its contract. Assumes nothing.
use Rattle.decimal_spelling.specs.Spelling.{gap_of}
use Rattle.decimal_spelling.proofs.half_gap.Goals as goal

pub returns-then-p : goal.returns-then-p
unfolding gap_of
returns-then-p c =
    rw c.if-p.true c.placed.ensures

pub returns : goal.returns
unfolding gap_of
returns c =
    rw c.if-p.false c.placed-2.ensures
