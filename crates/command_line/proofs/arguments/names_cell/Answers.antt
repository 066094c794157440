-- `command_line::arguments::names_cell` meets its contract. Assumes nothing.
use Rattle.command_line.proofs.Signs.{names}
use Rattle.command_line.proofs.arguments.names_cell.Goals as goal

pub returns : goal.returns
returns c = rw (c.is_empty.ensures, c.contains.ensures.value) (names c.args.word.now)
