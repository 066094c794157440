-- The text of a row: the time first, then the report's other fields in their order. Definitions only.
use Rattle.std.specs.Prelude.{ℕ, zero, suc, ◌+◌, ◌*◌, ◌-◌, ◌/◌, cond, List, [], ◌∷◌, ◌++◌, ltb, eqb, Float, length, get_or}
use Rattle.std.specs.Float.{nan}
use Rattle.decimal_spelling.specs.Spelling.{spelling}
use Rattle.binary64.specs.Literals.{«0·0»}

-- the field of eight in a column
abbrev pub field_of : ℕ → ℕ
field_of k = cond (eqb k 0) 6 (cond (eqb k 7) 7 (k - 1))

-- the number of a row in a column; a row past the last whole one has zeros
unfoldable pub number_at : List Float → ℕ → ℕ → Float
number_at rows row k = cond (ltb row (length rows / 8)) (get_or rows (row * 8 + field_of k) nan) «0·0»

-- a comma behind each but the last, which ends with a byte of the caller's: a line feed, or a comma where more columns follow
abbrev pub separator_of : ℕ → ℕ → ℕ
separator_of last k = cond (eqb k 7) last 44

-- the first k columns
unfoldable pub columns_by : ℕ → List Float → ℕ → ℕ → List ℕ
columns_by zero rows row last = []
columns_by (suc k) rows row last = columns_by k rows row last ++ (spelling (number_at rows row k) ++ separator_of last k ∷ [])
