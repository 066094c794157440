-- The search for the first row under a chosen voltage, in the words of the request: rows of groups whose lowest value is not under it are passed over. Definitions only.
use Rattle.std.specs.Prelude.{ℕ, zero, suc, ◌/◌, Bool, cond, ◌&&◌, List, eqb, leb, ltb, length, get_or, Float, Option, Some, None, Result, Ok, Err}
use Rattle.std.specs.Float.{nan}
use Rattle.std.specs.Float.Ieee.{lt}
use Rattle.refusal.specs.Numbers as N
use Rattle.refusal.specs.Ranges.{count_in_range, finite}
use Rattle.runs.specs.Lowest.{group_count, voltage_at}
use Rattle.refusal.specs.Refusals.{number_of}
use Rattle.refusal.specs.declared.Refusal.{Refusal}

-- the first place below n at which p holds, n where there is none
unfoldable pub first_where : (ℕ → Bool) → ℕ → ℕ
first_where p zero = zero
first_where p (suc k) = cond (eqb (first_where p k) k) (cond (p k) k (suc k)) (first_where p k)

-- row j is under the voltage; a NaN is not
abbrev pub under : List Float → Float → ℕ → Bool
under rows v j = lt (voltage_at rows j) v

-- row j is not passed over: the lowest value of its group is under the voltage
abbrev pub looked_at : List Float → Float → ℕ → Bool
looked_at lowest v j = lt (get_or lowest (j / 64) nan) v

-- ---- what is answered: a row, none, or a refusal's number
abbrev pub by_row : ℕ
by_row = 1

abbrev pub by_none : ℕ
by_none = 2

abbrev pub by_refusal : ℕ
by_refusal = 3

-- which of the three, and the row or the refusal's number, 0 for none
pub record Outcome : Type 0 where
  pub found : ℕ
  pub number : ℕ

-- each case of the call's answer
abbrev pub found_by : Result (Option ℕ) Refusal → Outcome
found_by (Ok (Some j)) = record { found = by_row; number = j }
found_by (Ok None) = record { found = by_none; number = 0 }
found_by (Err e) = record { found = by_refusal; number = number_of e }

-- place j, or none where it is not below the count
unfoldable pub row_outcome : ℕ → ℕ → Outcome
row_outcome count j = cond (ltb j count) (record { found = by_row; number = j }) (record { found = by_none; number = 0 })

-- ---- the rows are of simulate_discharge or of run_galvanostatic
abbrev pub of_discharge : ℕ
of_discharge = 1

abbrev pub of_galvanostatic : ℕ
of_galvanostatic = 2

-- 10: fewer than eight places a row, or fewer than one a group; 2: rows of neither run, a voltage that is not finite
unfoldable pub search_refusal : ℕ → ℕ → ℕ → ℕ → Float → ℕ
search_refusal which places lowest count v =
    N.first_refusal (N.refusal_unless (leb count (places / 8) && leb (group_count count) lowest) N.bad_length)
    (N.refusal_unless (count_in_range which of_discharge of_galvanostatic && finite v) N.sheet)

-- THE SEARCH among the first `count` rows, whatever rows and summary hold
unfoldable pub searched : ℕ → List Float → List Float → ℕ → Float → Outcome
searched which rows lowest count v =
    cond (eqb (search_refusal which (length rows) (length lowest) count v) 0)
    (row_outcome count (first_where (λ j. looked_at lowest v j && under rows v j) count))
    (record { found = by_refusal; number = search_refusal which (length rows) (length lowest) count v })

-- the full read, from the first row on
unfoldable pub full_read : List Float → ℕ → Float → Outcome
full_read rows count v = row_outcome count (first_where (under rows v) count)
