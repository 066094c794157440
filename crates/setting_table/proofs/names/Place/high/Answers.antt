-- `setting_table::names::Place::high` meets its contract. Assumes nothing.
use Rattle.setting_table.specs.Ranges.{high_of}
use Rattle.setting_table.proofs.Table.{high_at}
use Rattle.setting_table.proofs.names.Place.high.Goals as goal

pub returns : goal.returns
unfolding high_of
returns c = rw (← c.row.ensures.0) (high_at c.row.result _ c.row.ensures.1)
