-- The solution that `pj_solve_dense` gives is read back: 32 numbers of binary64, where the right side is a row of such. Assumes nothing.
use Rattle.std.specs.Prelude.{ℕ, ◌+◌, ◌≡◌, List, [], ◌∷◌, map, T, length, set, Float}
use Rattle.std.proofs.Common.{◌∙◌, length-set}
use Rattle.std.specs.Float.{binary64}
use Rattle.std.specs.Float.Ieee.{fits}
use Rattle.std.specs.Float.Ieee.Fits.{sub-fits, div-fits}
use Rattle.binary64.specs.Operators.{◌⊘◌, f64}
use Rattle.min_max.specs.MinMax.{abs_of}
use Rattle.matrix_rows.specs.Loops.{either, Tried, range_keeps}
use Rattle.arrays.specs.Places.{at}
use Rattle.matrix_rows.specs.Places.{entry}
use Rattle.matrix_rows.specs.Rows.{swapped}
use Rattle.matrix_columns.specs.Columns.{System, row_less, row_cleared, column_cleared, pivot_taken, rows_exchanged}
use Rattle.dense_elimination.specs.Elimination.{tiny, pivot_of, column_with, column_done}
use Rattle.dense.specs.Substitution.{taken_out, column_solved}
use Rattle.image_laws.specs.Encodable.{EncodableRow, []ᵉ, ◌∷ᵉ◌, set_encodable, literal}

-- 32 numbers of binary64
pub record EncodableColumn (x : List Float) : Type 0 where
  pub count : length x ≡ 32
  pub places : EncodableRow x

set_column : (x : List Float) (i : ℕ) (y : Float) → T (fits binary64 y) → EncodableColumn x → EncodableColumn (set x i y)
set_column x i y f h = record { count = length-set x i y ∙ h.count; places = set_encodable x i y f h.places }

-- ---- the elimination
abbrev pub Side : System → Type 0
Side s = EncodableColumn s.side

exchanged : (n col row : ℕ) (s : System) → Side s → Side (rows_exchanged n col row s)
unfolding swapped
exchanged n col row s h = set_column (set s.side col (at s.side row)) row (at s.side col) (h.places.place col) (set_column s.side col (at s.side row) (h.places.place row) h)

cleared : (n col row : ℕ) (pivot : Float) (s : System) → Side s → Side (row_cleared n col pivot row s)
unfolding row_cleared row_less
cleared n col row pivot s h = set_column s.side row _ (sub-fits binary64 _ _) h

taken : (n col row : ℕ) (s : System) → Side s → Side (pivot_taken n col row s)
unfolding pivot_taken column_cleared
taken n col row s h = range_keeps Side (col + 1) n _ (rows_exchanged n col row s) (λ i y _ _ p. cleared n col i _ y p) (exchanged n col row s h)

pub column_done_lem : (n col : ℕ) (s : System) → Side s → Side (column_done n col s).value
unfolding column_done column_with
column_done_lem n col s h =
    let p = pivot_of s.matrix col n in
    either (λ (t : Tried System). Side t.value) (tiny p.val) _ _ h (taken n col p.row s h)

-- ---- the substitution
pub column_solved_lem : (a : List Float) (col : ℕ) (x : List Float) → EncodableColumn x → EncodableColumn (column_solved a col x).value
unfolding column_solved taken_out
column_solved_lem a col x h =
    either (λ (t : Tried (List Float)). EncodableColumn t.value) (tiny (abs_of (entry a col col))) _ _ h
    (range_keeps EncodableColumn 0 col _ (set x col (at x col ⊘ entry a col col)) (λ i y _ _ p. set_column y i _ (sub-fits binary64 _ _) p) (set_column x col _ (div-fits binary64 _ _) h))

-- a row of doubles from C
pub doubles_encodable : (bits : List ℕ) → EncodableRow (map f64 bits)
doubles_encodable [] = []ᵉ
doubles_encodable (b ∷ bits) = literal b ∷ᵉ doubles_encodable bits
