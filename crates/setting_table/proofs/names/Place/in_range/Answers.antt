-- `setting_table::names::Place::in_range` meets its contract. Assumes nothing.
use Rattle.setting_table.specs.Ranges.{in_place}
use Rattle.setting_table.proofs.names.Place.in_range.Goals as goal

pub returns : goal.returns
unfolding in_place
returns c = rw (c.low.ensures, c.high.ensures)
