-- `command_line::arguments::asks_help` meets its contract. Assumes nothing.
use Rattle.command_line.specs.Arguments.{asks_help}
use Rattle.setting_table.specs.Names.{bytes_of}
use Rattle.command_line.proofs.arguments.asks_help.Goals as goal

pub returns : goal.returns
unfolding asks_help bytes_of
returns c =
    rw (c.is-3.ensures, c.is-2.ensures, c.is.ensures)
