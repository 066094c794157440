-- `cell_file::assign` meets its contract. Assumes nothing.
use Rattle.std.proofs.Common.{lt-ltb}
use Rattle.cell_file.specs.Settings.{assigned}
use Rattle.cell_file.proofs.assign.Goals as goal

pub returns-in-Some : goal.returns-in-Some
unfolding assigned
returns-in-Some c =
    rw (← c.without_blanks.ensures, ← c.in-Some.ensures.place, lt-ltb _ _ c.in-Some.ensures.within, ← c.without_blanks-in-Some.ensures, ← c.read.ensures) c.valued_as.ensures

pub returns-in-None : goal.returns-in-None
unfolding assigned
returns-in-None c = rw (← c.without_blanks.ensures, ← c.in-None.ensures.place)
