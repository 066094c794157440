-- `cell_file::valued_as` meets its contract. Assumes nothing.
use Rattle.cell_file.specs.Settings.{valued}
use Rattle.cell_file.proofs.Lines.{valued_none}
use Rattle.cell_file.proofs.valued_as.Goals as goal

pub returns-in-Ok-check_number : goal.returns-in-Ok-check_number
unfolding valued
returns-in-Ok-check_number c = rw (c.in-Ok.is, ← c.in-Ok-check_number.ensures)

pub returns-in-Err-check_number : goal.returns-in-Err-check_number
unfolding valued
returns-in-Err-check_number c = rw (c.in-Ok.is, ← c.in-Err-check_number.ensures)

pub returns-in-Err : goal.returns-in-Err
returns-in-Err c = rw (c.in-Err.is, c.from.ensures) (valued_none c.args.k c.in-Err.e)
