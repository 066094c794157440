-- `cell_file::Settings::take_line` meets its contract. Assumes nothing.
use Rattle.std.proofs.Common.{◌∙◌}
use Rattle.cell_file.specs.Settings.{faulted}
use Rattle.cell_file.proofs.Settings.take_line.Goals as goal

pub returns-in-Err : goal.returns-in-Err
unfolding faulted
returns-in-Err c = c.at_fault.ensures ∙ c.in-Err.ensures
