-- A run as turns of a state: what stands after k turns, and what the lent slice then holds. `over s` is 0 while the run goes on, 4 where its last step was
-- refused, and another number where it ended with a row; `turned` is one turn; `row s` the row of the last step. Definitions only.
use Rattle.std.specs.Prelude.{ℕ, zero, suc, ◌*◌, Bool, cond, not, ◌&&◌, List, eqb, get_or, Float}
use Rattle.std.specs.Float.{nan}
use Rattle.array_update.specs.ArrayUpdate.{places_by}
use Rattle.runs.specs.Endings.{by_refusal}

module _ {S : Type 0} (over : S → ℕ) (turned : S → S) (row : S → List Float) where
  -- after k turns: one that is over stays as it is
  unfoldable pub run_after : ℕ → S → S
  run_after zero s = s
  run_after (suc k) s = cond (eqb (over (run_after k s)) 0) (turned (run_after k s)) (run_after k s)

  -- whether the turn k writes a row: the run is not over, and the step is not refused
  abbrev pub writes : ℕ → S → Bool
  writes k s = eqb (over (run_after k s)) 0 && not (eqb (over (run_after (suc k) s)) by_refusal)

  -- the slice l after k turns: row k in the places 8 k to 8 k + 7
  unfoldable pub rows_after : ℕ → S → List Float → List Float
  rows_after zero s l = l
  rows_after (suc k) s l =
      cond (writes k s) (places_by (k * 8) 8 (λ j. get_or (row (run_after (suc k) s)) j nan) (rows_after k s l)) (rows_after k s l)
