-- What a line and a file answer, as numbers: a fault by its number, 0 for none, and a place, `none` for none. Definitions only.
use Rattle.std.specs.Prelude.{ℕ, suc, List, Float, Option, Some, None, Result, Ok, Err, unwrap_or}
use Rattle.binary64.specs.Literals.{«0·0»}
use Rattle.decimal_text.specs.declared.DecimalError.{DecimalError}
use Rattle.decimal_text.specs.declared.DecimalError.TheVariants.{TooLong as LongDecimal, NotDecimal as NoDecimal}
use Rattle.setting_table.specs.Names.{none}
use Rattle.cell_file.specs.declared.Fault.{Fault}
use Rattle.cell_file.specs.declared.Fault.TheVariants.{NoSign, UnknownName, NotDecimal, TooLong, OutOfRange, NotWhole, GivenTwice, LongFile, NotGiven}
use Rattle.cell_file.specs.declared.Setting.{Setting as Given}
use Rattle.cell_file.specs.declared.LineFault.{LineFault}
use Rattle.cell_file.specs.declared.Settings.{Settings as Taken}
use Rattle.cell_file.specs.declared.SettingsFault.{SettingsFault}

-- what a line sets: a number at a place, or its fault; `none` and no fault where it sets nothing
pub record Setting : Type 0 where
  pub fault : ℕ
  pub place : ℕ
  pub value : Float

-- the numbers, the line that gave each, and the first fault with its place and its line
pub record Settings : Type 0 where
  pub values : List Float
  pub given : List ℕ
  pub fault : ℕ
  pub place : ℕ
  pub line : ℕ

-- ---- the faults
-- how many faults stand before a fault
abbrev faults_before : Fault → ℕ
faults_before NoSign = 0
faults_before UnknownName = 1
faults_before NotDecimal = 2
faults_before TooLong = 3
faults_before OutOfRange = 4
faults_before NotWhole = 5
faults_before GivenTwice = 6
faults_before LongFile = 7
faults_before NotGiven = 8

abbrev pub number_of : Fault → ℕ
number_of e = suc (faults_before e)

abbrev pub fault_from : DecimalError → Fault
fault_from LongDecimal = TooLong
fault_from NoDecimal = NotDecimal

abbrev pub fault_of : {A : Type 0} → Result A Fault → ℕ
fault_of (Ok x) = 0
fault_of (Err e) = number_of e

-- ---- a line
abbrev pub set_to : Given → Setting
set_to a = record { fault = 0; place = a.place; value = a.value }

abbrev pub fault_on : LineFault → Setting
fault_on e = record { fault = number_of e.fault; place = unwrap_or e.place none; value = e.value }

abbrev pub setting_given : Result Given LineFault → Setting
setting_given (Ok a) = set_to a
setting_given (Err e) = fault_on e

abbrev pub setting_answered : Result (Option Given) LineFault → Setting
setting_answered (Ok None) = record { fault = 0; place = none; value = «0·0» }
setting_answered (Ok (Some a)) = set_to a
setting_answered (Err e) = fault_on e

-- ---- a file
abbrev pub settings_of : Taken → Settings
settings_of st = record { values = st.values; given = st.given; fault = 0; place = none; line = 0 }

-- of what a line left in place, with its fault if it has one
abbrev pub line_taken : {A : Type 0} → Settings → ℕ → Result A LineFault → Settings
line_taken st line (Ok x) = st
line_taken st line (Err e) = record {
  values = st.values;
  given = st.given;
  fault = number_of e.fault;
  place = unwrap_or e.place none;
  line = line;
}

abbrev pub settings_answered : Result Taken SettingsFault → Settings
settings_answered (Ok st) = settings_of st
settings_answered (Err e) = record {
  values = e.settings.values;
  given = e.settings.given;
  fault = number_of e.fault;
  place = unwrap_or e.place none;
  line = e.line;
}
