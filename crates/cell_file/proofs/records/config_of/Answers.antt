-- `cell_file::records::config_of` meets its contract. Assumes nothing.
use Rattle.cell_file.specs.Records.{config_at}
use Rattle.cell_file.proofs.records.config_of.Goals as goal

pub returns : goal.returns
unfolding config_at
returns c = rw c.ceil_count.ensures
