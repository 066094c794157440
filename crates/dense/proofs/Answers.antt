-- What every answer holds: +0 at the unused places and at all places beside a refusal, and a finite number at each place. Assumes nothing.
use Prim.Native.Nat.{ℕ, zero, suc, ◌+◌, ◌-◌, ◌≤◌, ◌<◌}
use mathlib.Core.Path.{◌≡◌, refl}
use mathlib.Core.List.{List}
use native.Mathlib.Omega.{arith}
use native.Mathlib.Nat.{ne_of_gt}
use lib.Dec.{T, eqb, eqb-suc-zero}
use lib.ListN.{set}
use lib.Seq.{get_or-set_other}
use lib.Ieee.{Float, nan, of_bits}
use borrow.Author.Tests.{ne_eqb}
use Rattle.min_max.specs.MinMax.{abs_of}
use Rattle.refusal.specs.Numbers.{neither_refused, passed}
use Rattle.refusal.specs.Ranges.{finite}
use Rattle.iterate.specs.Iterate.{first_by, first_above, all_at}
use Rattle.matrix_rows.specs.Loops.{Tried, either, range_keeps, try_keeps}
use Rattle.arrays.specs.Places.{at, all_finite}
use Rattle.matrix_rows.specs.Places.{entry, zeros}
use Rattle.matrix_rows.specs.Rows.{swapped}
use Rattle.matrix_columns.specs.Columns.{System, row_less, row_cleared, column_cleared, pivot_taken}
use Rattle.dense_elimination.specs.Elimination.{pivot_of, column_with, column_done, eliminated, tiny}
use Rattle.dense.specs.Substitution.{taken_out, column_solved, substituted}
use Rattle.dense.specs.Solve.{loaded, reduced, solution, solution_refusal, answer, solved}
use Rattle.dense_elimination.proofs.Pivots.{pivot_row}
use Rattle.binary64.specs.Literals.{«0·0»}

zeros_at : (k i : ℕ) → i < k → at (zeros k) i ≡ «0·0»
zeros_at zero i l = absurd (omega (arith, l))
zeros_at (suc k) zero l = refl
zeros_at (suc k) (suc i) l = zeros_at k i (omega (arith, l))

-- place i of l is +0
record ZeroAt (i : ℕ) (l : List Float) : Type 0 where
  is_zero : at l i ≡ «0·0»

module _ (n i : ℕ) (h : n ≤ i) where
  set_zero : (l : List Float) (k : ℕ) (v : Float) → k < n → ZeroAt i l → ZeroAt i (set l k v)
  set_zero l k v m z = record { is_zero = rw (get_or-set_other l k i v nan (ne_of_gt (omega arith))) z.is_zero }

  swapped_zero : (p q : ℕ) (l : List Float) → p < n → q < n → ZeroAt i l → ZeroAt i (swapped p q l)
  unfolding swapped
  swapped_zero p q l m k z = set_zero _ q _ k (set_zero l p _ m z)

  cleared_zero : (col : ℕ) (s : System) → ZeroAt i s.side → ZeroAt i (column_cleared n col s).side
  unfolding column_cleared row_cleared row_less
  cleared_zero col s z = range_keeps (λ (t : System). ZeroAt i t.side) (col + 1) n _ s (λ row t _ m y. set_zero t.side row _ m y) z

  column_zero : (col : ℕ) (s : System) → col < n → ZeroAt i s.side → ZeroAt i (column_done n col s).value.side
  unfolding column_done column_with pivot_taken
  column_zero col s m z =
      either (λ (t : Tried System). ZeroAt i t.value.side) (tiny (pivot_of s.matrix col n).val) _ _ z
      (cleared_zero col _ (swapped_zero col (pivot_of s.matrix col n).row s.side m (pivot_row s.matrix col n m) z))

  eliminated_zero : (s : System) → ZeroAt i s.side → ZeroAt i (eliminated n s).value.side
  unfolding eliminated
  eliminated_zero s z = try_keeps (λ (t : System). ZeroAt i t.side) n (column_done n) s column_zero z

  solved_zero : (a : List Float) (col : ℕ) (x : List Float) → col < n → ZeroAt i x → ZeroAt i (column_solved a col x).value
  unfolding column_solved taken_out
  solved_zero a col x m z =
      either (λ (t : Tried (List Float)). ZeroAt i t.value) (tiny (abs_of (entry a col col))) _ _ z
      (range_keeps (ZeroAt i) 0 col (taken_out a col) _ (λ row y _ k w. set_zero y row _ (omega arith) w) (set_zero x col _ m z))

  substituted_zero : (a x : List Float) → ZeroAt i x → ZeroAt i (substituted a n x).value
  unfolding substituted
  substituted_zero a x z = try_keeps (ZeroAt i) n _ x (λ k y m w. solved_zero a (n - 1 - k) y (omega arith) w) z

  answer_zero : (number : ℕ) (x : List Float) → i < 32 → ZeroAt i x → ZeroAt i (answer number x).x
  unfolding answer
  answer_zero number x l z = either (ZeroAt i) (eqb number 0) x (zeros 32) z (record { is_zero = zeros_at 32 i l })

  pub unused : (a b : List Float) → i < 32 → at (solved a b n).x i ≡ «0·0»
  unfolding solved solution reduced loaded
  unused a b l =
      let side : ZeroAt i (first_by n (at b) (zeros 32)) = record { is_zero = rw (first_above (at b) (zeros 32) n i nan h) (zeros_at 32 i l) } in
      (answer_zero _ _ l (substituted_zero _ _ (eliminated_zero (loaded a b n) side))).is_zero

-- and where the number is not 0, all of them
pub refused : (a b : List Float) (n : ℕ) → ((solved a b n).refusal ≡ 0 → ⊥) → (solved a b n).x ≡ zeros 32
unfolding solved answer
refused a b n h = rw (ne_eqb _ _ h)

-- a solution that is handed out has passed the test for 8
solution_finite : (a b : List Float) (n : ℕ) → (solved a b n).refusal ≡ 0 → T (all_finite (solution a b n).value 32)
unfolding solved answer solution_refusal
solution_finite a b n e = passed _ _ (omega arith) (neither_refused _ _ (neither_refused _ _ (neither_refused _ _ e).1).1).1

answer_finite : (number : ℕ) (x : List Float) (i : ℕ) → i < 32 → (number ≡ 0 → T (all_finite x 32)) → T (finite (at (answer number x).x i))
unfolding answer of_bits
answer_finite zero x i l h = all_at (λ k. finite (at x k)) 32 i l (h refl)
answer_finite (suc k) x i l h = rw (eqb-suc-zero, zeros_at 32 i l) tt

pub always_finite : (a b : List Float) (n i : ℕ) → i < 32 → T (finite (at (solved a b n).x i))
unfolding solved answer
always_finite a b n i l = answer_finite _ (solution a b n).value i l (solution_finite a b n)
