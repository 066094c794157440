-- `cell_file::SettingsFault::fresh` meets its contract. Assumes nothing.
use Rattle.std.proofs.Common.{ap, ◌∙◌}
use Rattle.setting_table.specs.Names.{none}
use Rattle.cell_file.specs.Answers.{number_of}
use Rattle.cell_file.specs.Settings.{faulted}
use Rattle.cell_file.proofs.SettingsFault.fresh.Goals as goal

pub returns : goal.returns
unfolding faulted
returns c =
    c.at_fault.ensures ∙ ap (λ st. faulted st 0 (number_of c.args.fault) none) c.fresh.ensures
