-- `setting_table::names::Place::low` meets its contract. Assumes nothing.
use Rattle.setting_table.specs.Ranges.{low_of}
use Rattle.setting_table.proofs.Table.{low_at}
use Rattle.setting_table.proofs.names.Place.low.Goals as goal

pub returns : goal.returns
unfolding low_of
returns c = rw (← c.row.ensures.0) (low_at c.row.result _ c.row.ensures.1)
