-- A run of k turns writes at most k rows, and an ending is a number up to 6. Assumes nothing.
use Prim.Native.Nat.{ℕ, zero, suc, ◌≤◌, ◌+◌}
use Rattle.std.specs.Prelude.{List, eqb, Float}
use native.Mathlib.Omega.{arith}
use Rattle.std.proofs.Common.{le_refl, lit≤}
use Rattle.matrix_rows.specs.Loops.{either}
use Rattle.runs.specs.Rows.{run_after}
use Rattle.runs.specs.Endings.{Ended, ending_of}

module _ {S : Type 0} (over : S → ℕ) (turned : S → S) (row : S → List Float) where
  pub run_rows : (rows : S → ℕ) → ((s : S) → rows (turned s) ≤ rows s + 1) → (k : ℕ) (s : S) → rows (run_after over turned row k s) ≤ rows s + k
  unfolding run_after
  run_rows rows f zero s = omega arith
  run_rows rows f (suc k) s =
      let r = run_after over turned row k s in
      let m = run_rows rows f k s in
      let n = f r in
      either (λ (x : S). rows x ≤ rows s + suc k) (eqb (over r) 0) (turned r) r (omega (arith, m, n)) (omega (arith, m))

-- the number of an ending
pub ending_most : (over k : ℕ) → (ending_of over k).ending ≤ 6
unfolding ending_of
ending_most over k =
    let P : Ended → Type 0 = λ e. e.ending ≤ 6 in
    either P (eqb over 0) _ _ (lit≤ tt) (either P (eqb over 1) _ _ (lit≤ tt) (either P (eqb over 2) _ _ (lit≤ tt) (either P (eqb over 5) _ _ (lit≤ tt) (either P (eqb over 6) _ _ (le_refl 6) (lit≤ tt)))))
