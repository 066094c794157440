-- A row's line grows column by column. Assumes nothing.
use Prim.Native.Nat.{ℕ, suc}
use mathlib.Core.Path.{◌≡◌, sym, ◌∙◌}
use mathlib.Core.List.{List, [], ◌∷◌, ◌++◌}
use lib.Ieee.{Float}
use Rattle.decimal_spelling.specs.Spelling.{Written, put_byte, put_all, spelling}
use Rattle.decimal_spelling.proofs.Turns.{put_append}
use Rattle.csv_rows.specs.Row.{number_at, separator_of, columns_by}

pub column-turn :
    (w w1 w2 w3 : Written) (rows : List Float) (row last k : ℕ)
    → w1 ≡ put_all w (columns_by k rows row last) → w2 ≡ put_all w1 (spelling (number_at rows row k)) → w3 ≡ put_byte w2 (separator_of last k)
    → w3 ≡ put_all w (columns_by (suc k) rows row last)
unfolding columns_by put_all
column-turn w w1 w2 w3 rows row last k e1 e2 e3 =
    e3
    ∙ rw (e2, e1)
    (sym
    (put_append w (columns_by k rows row last) (spelling (number_at rows row k) ++ separator_of last k ∷ [])
    ∙ put_append (put_all w (columns_by k rows row last)) (spelling (number_at rows row k)) (separator_of last k ∷ [])))
