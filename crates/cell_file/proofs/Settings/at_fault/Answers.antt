-- `cell_file::Settings::at_fault` meets its contract. Assumes nothing.
use Rattle.std.proofs.Common.{refl}
use Rattle.cell_file.specs.Settings.{faulted}
use Rattle.cell_file.proofs.Settings.at_fault.Goals as goal

pub returns : goal.returns
unfolding faulted
returns c = refl
