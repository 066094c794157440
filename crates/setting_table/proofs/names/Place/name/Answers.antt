-- `setting_table::names::Place::name` meets its contract. Assumes nothing.
use Rattle.setting_table.specs.Names.{letter_of}
use Rattle.setting_table.proofs.Table.{letter_at}
use Rattle.setting_table.proofs.names.Place.name.Goals as goal

pub returns : goal.returns
unfolding letter_of
returns c = λ j h. rw (← c.row.ensures.0) (letter_at c.row.result j _ c.row.ensures.1 h)
