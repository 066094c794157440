-- `series_from_last` meets its contract. Assumes nothing.
use Rattle.elementary.proofs.series_from_last.Goals as goal

pub returns-then-b : goal.returns-then-b
returns-then-b c =
    c.requires c.if-b.true
