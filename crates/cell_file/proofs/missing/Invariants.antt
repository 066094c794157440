-- `cell_file::missing` meets its contract. Assumes nothing.
use Rattle.std.proofs.Common.{◌≡◌, ◌-◌}
use Rattle.setting_table.specs.Names.{none}
use Rattle.cell_file.specs.Settings.{in_sheets, missing_by}
use Rattle.cell_file.proofs.missing.Given as goal

abbrev pub invariant-loop-index : goal.invariant-loop-index
invariant-loop-index l = missing_by in_sheets l.given ≡ missing_by (none - l.index) l.given
