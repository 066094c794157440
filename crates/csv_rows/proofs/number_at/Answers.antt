-- `csv_rows::number_at` meets its contract. Assumes nothing.
use Rattle.std.proofs.Common.{lt-ltb, le-ltb}
use Rattle.csv_rows.specs.Row.{number_at}
use Rattle.csv_rows.proofs.number_at.Goals as goal

pub returns-then-row-rows : goal.returns-then-row-rows
unfolding number_at
returns-then-row-rows c =
    rw (le-ltb _ _ c.if-row-rows.true)

pub returns : goal.returns
unfolding number_at
returns c =
    rw (lt-ltb _ _ c.if-row-rows.false, c.field.ensures.0)
