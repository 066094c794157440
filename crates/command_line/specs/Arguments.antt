-- What the first argument asks for, and the cell that a run's numbers make. Definitions only.
use Rattle.std.specs.Prelude.{ℕ, Bool, cond, ◌&&◌, ◌||◌, List, ltb, eqb, Float, length, Result, Ok, Err}
use Rattle.plain_text.specs.Text.{index_of, is_text}
use Rattle.setting_table.specs.Names.{anode, cathode, none, bytes_of}
use Rattle.cell_file.specs.declared.Settings.{Settings as Taken}
use Rattle.cell_file.specs.Answers.{Settings, settings_of}
use Rattle.command_line.specs.declared.arguments.NumberedFault.{NumberedFault}
use Rattle.cell_file.specs.Records.{config_at, sheet_at}
use Rattle.solver.specs.Answers.{SpmBuildAnswer}
use Rattle.solver.specs.Cell.{built}

-- an argument that names a cell is not empty and has no '='
unfoldable pub names_cell : List ℕ → Bool
names_cell w = ltb 0 (length w) && eqb (index_of 61 w) (length w)

-- help, --help or -h
unfoldable pub asks_help : List ℕ → Bool
asks_help w = is_text w (bytes_of "help") || is_text w (bytes_of "--help") || is_text w (bytes_of "-h")

-- the first argument that sets something
unfoldable pub first_place : List ℕ → ℕ
first_place w = cond (names_cell w) 2 1

-- the config, the anode's sheet and the cathode's
unfoldable pub built_from : List Float → SpmBuildAnswer
built_from v = built (config_at v) (sheet_at v anode) (sheet_at v cathode)

-- numbers to start from, beside the number of a fault that was met before
abbrev pub fresh_answered : Result Taken NumberedFault → Settings
fresh_answered (Ok st) = settings_of st
fresh_answered (Err e) = record {
  values = e.settings.values;
  given = e.settings.given;
  fault = e.fault;
  place = none;
  line = 0;
}
