-- What a line sets, and what a file sets: the first fault that is met, with its line, or the numbers. Definitions only.
use Rattle.std.specs.Prelude.{ℕ, zero, suc, ◌-◌, Bool, cond, not, ◌&&◌, List, [], ◌∷◌, length, take, drop, replicate, ◌==◌, nat_le, nat_lt, slice_index, slice_set, Float, Result, Ok, Err}
use Rattle.decimal_text.specs.declared.DecimalError.{DecimalError}
use Rattle.decimal_text.specs.declared.DecimalError.TheVariants.{TooLong, NotDecimal}
use Rattle.decimal_text.specs.DecimalText.{number_of}
use Rattle.setting_table.specs.Names.{anode, none, row_of, place_of}
use Rattle.setting_table.specs.Ranges.{in_place, is_count, is_whole}
use Rattle.cell_file.specs.Answers.{Setting, Settings}
use Rattle.plain_text.specs.Text.{index_of, trimmed, before, lines_of, after_mark}
use Rattle.binary64.specs.Literals.{«0·0»}

-- ---- the faults, by number; 0 is none
abbrev pub no_sign : ℕ
no_sign = 1

abbrev pub unknown_name : ℕ
unknown_name = 2

abbrev pub not_decimal : ℕ
not_decimal = 3

abbrev pub too_long_of : ℕ
too_long_of = 4

abbrev pub out_of_range : ℕ
out_of_range = 5

abbrev pub not_whole : ℕ
not_whole = 6

abbrev pub given_twice : ℕ
given_twice = 7

abbrev pub long_file : ℕ
long_file = 8

abbrev pub not_given : ℕ
not_given = 9

abbrev pub setting : ℕ → ℕ → Float → Setting
setting fault place value = record { fault = fault; place = place; value = value }

-- a number at its place: in its range, and whole where it counts
unfoldable pub number_fault : ℕ → Float → ℕ
number_fault k x = cond (in_place k x) (cond (is_count k && not (is_whole x)) not_whole 0) out_of_range

unfoldable pub valued : ℕ → Result Float DecimalError → Setting
valued k (Ok x) = setting (number_fault k x) k x
valued k (Err TooLong) = setting too_long_of k «0·0»
valued k (Err NotDecimal) = setting not_decimal k «0·0»

-- NAME and VALUE, with blanks around them or not
unfoldable pub assigned : List ℕ → List ℕ → Setting
assigned name value = cond (nat_lt (place_of (trimmed name)) none) (valued (place_of (trimmed name)) (number_of (trimmed value))) (setting unknown_name none «0·0»)

-- NAME = VALUE, at the first '='
unfoldable pub setting_of : List ℕ → Setting
setting_of t = cond (nat_lt (index_of 61 t) (length t)) (assigned (take (index_of 61 t) t) (drop (suc (index_of 61 t)) t)) (setting no_sign none «0·0»)

-- nothing but blanks sets nothing
unfoldable pub solid_setting : List ℕ → Setting
solid_setting t = cond (length t == 0) (setting 0 none «0·0») (setting_of t)

-- a line, up to the '#' that begins a remark
unfoldable pub line_setting : List ℕ → Setting
line_setting s = solid_setting (trimmed (before 35 s))

-- ---- line after line: the numbers, the line that gave each (0 for none), and the first fault with its place and line
-- numbers of which none is given
abbrev pub fresh_settings : List Float → ℕ → Settings
fresh_settings values fault = record { values = values; given = replicate none 0; fault = fault; place = none; line = 0 }

unfoldable pub faulted : Settings → ℕ → ℕ → ℕ → Settings
faulted st line fault place = record {
  values = st.values;
  given = st.given;
  fault = fault;
  place = place;
  line = line;
}

unfoldable pub given : Settings → ℕ → Setting → Settings
given st line a = record {
  values = slice_set st.values a.place a.value;
  given = slice_set st.given a.place line;
  fault = st.fault;
  place = st.place;
  line = st.line;
}

-- a name is given once
unfoldable pub stored : Settings → ℕ → Setting → Settings
stored st line a =
    cond (a.fault == 0)
    (cond (nat_lt a.place none)
    (cond (slice_index st.given a.place == 0) (given st line a) (faulted st line given_twice a.place))
    st)
    (faulted st line a.fault a.place)

-- after a fault nothing is taken
unfoldable pub taken_line : Settings → ℕ → List ℕ → Settings
taken_line st line s = cond (st.fault == 0) (stored st line (line_setting s)) st

unfoldable pub lines_taken : Settings → ℕ → List (List ℕ) → Settings
lines_taken st line [] = st
lines_taken st line (l ∷ ls) = lines_taken (taken_line st line l) (suc line) ls

-- a file of at most 4,095 bytes
unfoldable pub file_taken : Settings → List ℕ → Settings
file_taken st s = cond (nat_le (length s) 4095) (lines_taken st 1 (lines_of (after_mark s))) (faulted st 0 long_file none)

-- how many numbers both sheets have, with their chemistries
abbrev pub in_sheets : ℕ
in_sheets = none - anode

-- the last place
abbrev pub last : ℕ
last = none - 1

-- the row of t_ref
abbrev pub reference_row : ℕ
reference_row = 20

-- a cell file may leave t_ref out
abbrev pub is_asked : ℕ → Bool
is_asked k = not (row_of k == reference_row)

-- the first place that is asked for and that no line gave, of the last k of both sheets
unfoldable pub missing_by : ℕ → List ℕ → ℕ
missing_by zero g = none
missing_by (suc k) g = cond (is_asked (last - k) && slice_index g (last - k) == 0) (last - k) (missing_by k g)

-- a cell file gives both sheets, but for t_ref
unfoldable pub whole_sheets : Settings → Settings
whole_sheets st = cond (st.fault == 0 && nat_lt (missing_by in_sheets st.given) none) (faulted st 0 not_given (missing_by in_sheets st.given)) st

unfoldable pub cell_taken : Settings → List ℕ → Settings
cell_taken st s = whole_sheets (file_taken st s)
