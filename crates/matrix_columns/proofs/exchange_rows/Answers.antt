-- `matrix_columns::exchange_rows` meets its contract. Assumes nothing.
use Rattle.matrix_rows.specs.Rows.{swapped_itself, rows_itself}
use Rattle.matrix_columns.proofs.exchange_rows.Goals as goal

pub returns-then-row-col : goal.returns-then-row-col
returns-then-row-col c =
    rw (c.if-row-col.true, rows_itself c.args.col c.args.n _, swapped_itself c.args.col _)

pub shape_of-a : goal.shape_of-a
shape_of-a c =
    c.swap_rows.auto.a

pub returns : goal.returns
returns c =
    rw (c.swap_rows.ensures, c.swap_places.ensures)
