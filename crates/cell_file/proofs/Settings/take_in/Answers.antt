-- `cell_file::Settings::take_in` meets its contract. Assumes nothing.
use Rattle.cell_file.specs.Settings.{stored, taken_line, faulted}
use Rattle.cell_file.proofs.Lines.{is_fault}
use Rattle.cell_file.proofs.Settings.take_in.Goals as goal

pub returns-in-Ok-None : goal.returns-in-Ok-None
unfolding taken_line stored
returns-in-Ok-None c = rw (← rw c.in-Ok-None.field-0-is at c.in-Ok-None.ensures)

pub returns-in-Ok-Some : goal.returns-in-Ok-Some
unfolding taken_line
returns-in-Ok-Some c = rw (← rw c.in-Ok-Some.field-0-is at c.in-Ok-Some.ensures) c.store.ensures

pub returns-in-Err : goal.returns-in-Err
unfolding taken_line stored faulted
returns-in-Err c = rw (← c.in-Err.ensures, is_fault c.in-Err.fault.fault)
