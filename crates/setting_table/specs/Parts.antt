-- The parts of the numbers, in their order. Definitions only.
use Rattle.std.specs.Prelude.{ℕ}
use Rattle.setting_table.specs.declared.names.Part.{Part}
use Rattle.setting_table.specs.declared.names.Part.TheVariants.{Run, Anode, Cathode}

abbrev pub part_number : Part → ℕ
part_number Run = 0
part_number Anode = 1
part_number Cathode = 2
