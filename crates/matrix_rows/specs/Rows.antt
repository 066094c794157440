-- The exchange of two rows and their reduction, as in `solve_dense` of dfn.rs. Each definition is a loop of the Rust or a turn of one. Assumes nothing.
use Rattle.std.specs.Prelude.{ℕ, ◌≡◌, refl, List, set, Float}
use Rattle.std.proofs.Common.{◌∙◌}
use Rattle.std.proofs.lemmas.List.{set-get_or}
use Rattle.std.specs.Float.{nan}
use Rattle.binary64.specs.Operators.{◌⊖◌, ◌⊗◌}
use Rattle.matrix_rows.specs.Loops.{for_range, range_keeps}
use Rattle.arrays.specs.Places.{at}
use Rattle.matrix_rows.specs.Places.{place, entry}

-- ---- the exchange of two rows

-- `swap`: the places p and q exchanged
unfoldable pub swapped : ℕ → ℕ → List Float → List Float
swapped p q l = set (set l p (at l q)) q (at l p)

-- the first n places of the rows p and q
unfoldable pub rows_swapped : ℕ → ℕ → ℕ → List Float → List Float
rows_swapped p q n a = for_range 0 n (λ k m. swapped (place p k) (place q k) m) a

-- a row exchanged with itself is as it was
pub swapped_itself : (p : ℕ) (l : List Float) → swapped p p l ≡ l
unfolding swapped
swapped_itself p l = rw (set-get_or l p nan, set-get_or l p nan)

pub rows_itself : (p n : ℕ) (a : List Float) → rows_swapped p p n a ≡ a
unfolding rows_swapped
rows_itself p n a = range_keeps (λ (m : List Float). m ≡ a) 0 n _ a (λ i y _ _ e. swapped_itself (place p i) y ∙ e) refl

-- ---- the reduction of rows

-- `a[row][k] -= f * a[col][k]` for k from col to n - 1
unfoldable pub row_reduced : ℕ → ℕ → ℕ → Float → List Float → List Float
row_reduced row col n f a = for_range col n (λ k m. set m (place row k) (entry m row k ⊖ f ⊗ entry m col k)) a
