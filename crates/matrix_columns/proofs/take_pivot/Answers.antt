-- `matrix_columns::take_pivot` meets its contract. Assumes nothing.
use mathlib.Core.Path.{◌∙◌}
use Rattle.matrix_columns.specs.Columns.{pivot_taken}
use Rattle.matrix_columns.proofs.take_pivot.Goals as goal

pub shape_of-a : goal.shape_of-a
shape_of-a c =
    c.clear_column.auto.a ∙ c.exchange_rows.auto.a

pub returns : goal.returns
unfolding pivot_taken
returns c =
    rw (← c.exchange_rows.ensures) c.clear_column.ensures
