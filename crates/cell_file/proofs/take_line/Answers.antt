-- `cell_file::take_line` meets its contract. Assumes nothing.
use Rattle.cell_file.specs.Settings.{taken_line}
use Rattle.cell_file.proofs.Lines.{is_fault}
use Rattle.cell_file.proofs.take_line.Goals as goal

pub returns-in-Err : goal.returns-in-Err
unfolding taken_line
returns-in-Err c = rw (c.in-Err.is, is_fault c.in-Err.e.fault)
