-- Laws of the search for a pivot, and of a column by its pivot. Assumes nothing.
use Prim.Native.Nat.{ℕ, ◌+◌, ◌-◌, ◌*◌, ◌≤◌, ◌<◌}
use mathlib.Core.Path.{◌≡◌, refl, sym}
use mathlib.Core.Bool.{true, false}
use mathlib.Core.List.{List}
use mathlib.Core.Logic.{⊎_elim}
use native.Mathlib.Omega.{arith}
use native.Mathlib.Nat.{eq-or-lt_of_le, le_refl}
use lib.Ieee.{Float, nan, inf, fin, lt, up, down}
use borrow.Author.Tests.{le-ltb}
use Rattle.refusal.specs.Numbers.{singular}
use Rattle.dense_elimination.specs.declared.Pivot.{Pivot}
use Rattle.matrix_rows.specs.Loops.{turns_from, for_range, range_none, range_next, range_keeps, either, outcome}
use Rattle.matrix_columns.specs.Columns.{System, pivot_taken}
use Rattle.dense_elimination.specs.Elimination.{candidate, larger, pivot_of, tiny, column_with, column_done}

-- nothing is below itself
lt_self : (v : Float) → lt v v ≡ false
unfolding lt
lt_self nan = refl
lt_self (inf true) = refl
lt_self (inf false) = refl
lt_self (fin true m e) = le-ltb (m * up e * down e) (m * up e * down e) (le_refl _)
lt_self (fin false m e) = le-ltb (m * up e * down e) (m * up e * down e) (le_refl _)

larger_self : (p : Pivot) → larger p p ≡ p
unfolding larger
larger_self p = rw (lt_self p.val)

module _ (a : List Float) (col : ℕ) where
  -- on the diagonal nothing has been compared yet
  pub pivot_first : pivot_of a col col ≡ candidate a col col
  unfolding pivot_of for_range turns_from
  pivot_first =
      let e : col - (col + 1) ≡ 0 = omega arith in
      rw e

  pivot_second : pivot_of a col (col + 1) ≡ candidate a col col
  unfolding pivot_of
  pivot_second = range_none (col + 1) _ _

  pivot_below : (row : ℕ) → col < row → larger (pivot_of a col row) (candidate a row col) ≡ pivot_of a col (row + 1)
  unfolding pivot_of
  pivot_below row l = sym (range_next (col + 1) row _ _ (omega arith))

  -- a row more; the one on the diagonal, compared with itself, changes nothing
  pub pivot_next : (row : ℕ) → col ≤ row → larger (pivot_of a col row) (candidate a row col) ≡ pivot_of a col (row + 1)
  pivot_next row h =
      ⊎_elim
      (λ (e : col ≡ row). rw (← e, pivot_first, pivot_second) (larger_self (candidate a col col)))
      (pivot_below row)
      (eq-or-lt_of_le h)

  -- the pivot's row is one of those looked at
  pub pivot_row : (n : ℕ) → col < n → (pivot_of a col n).row < n
  unfolding pivot_of larger candidate
  pivot_row n l =
      range_keeps (λ (p : Pivot). p.row < n) (col + 1) n _ (candidate a col col)
      (λ row p _ m q. either (λ (r : Pivot). r.row < n) (lt p.val (candidate a row col).val) (candidate a row col) p m q)
      l

module _ (n col : ℕ) (s : System) (p : Pivot) (e : p ≡ pivot_of s.matrix col n) where
  pub column_none : tiny p.val ≡ true → column_done n col s ≡ outcome singular s
  unfolding column_done column_with
  column_none h = rw (← e, h)

  pub column_some : tiny p.val ≡ false → column_done n col s ≡ outcome 0 (pivot_taken n col p.row s)
  unfolding column_done column_with
  column_some h = rw (← e, h)
