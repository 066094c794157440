-- The rows of docs/REFERENCE.md's table as a call answers with them, and their numbers. Definitions only.
use Rattle.std.specs.Prelude.{ℕ, suc, Option, Some, None, Result, Ok, Err}
use Rattle.refusal.specs.declared.Refusal.{Refusal}
use Rattle.refusal.specs.declared.Refusal.TheVariants.{Grid, Sheet, Load, Interval, Temperature, Diffusivity, SubSteps, NotFinite, Singular, Length, Line, File, Index}

-- how many rows stand above a row
abbrev rows_above : Refusal → ℕ
rows_above Grid = 0
rows_above Sheet = 1
rows_above Load = 2
rows_above Interval = 3
rows_above Temperature = 4
rows_above Diffusivity = 5
rows_above SubSteps = 6
rows_above NotFinite = 7
rows_above Singular = 8
rows_above Length = 9
rows_above Line = 10
rows_above File = 11
rows_above Index = 12

-- the number of a row, the first being 1
abbrev pub number_of : Refusal → ℕ
number_of e = suc (rows_above e)

-- the number of a row, 0 for none
abbrev pub row_number : Option Refusal → ℕ
row_number None = 0
row_number (Some e) = number_of e

-- the number that a call has met, 0 for none
abbrev pub refusal_of : {A : Type 0} → Result A Refusal → ℕ
refusal_of (Ok x) = 0
refusal_of (Err e) = number_of e
