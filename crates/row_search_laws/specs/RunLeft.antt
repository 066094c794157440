-- The rows and the summary that a run leaves, for any run whose rows have finite voltages. Assumes nothing.
use Rattle.std.specs.Prelude.{ℕ, suc, ◌+◌, ◌*◌, ◌≤◌, ◌<◌, ◌≡◌, List, T, length, get_or, Float}
use Rattle.std.proofs.Common.{◌∙◌, ap, arith, add-one}
use Rattle.std.specs.Float.{nan}
use Rattle.refusal.specs.Ranges.{count_in_range, finite}
use Rattle.runs.specs.Endings.{by_refusal}
use Rattle.runs.specs.Rows.{run_after, rows_after}
use Rattle.runs.specs.Laws.{run_more}
use Rattle.runs.specs.RowPlaces.{CountsRows, rows_length, count_most, row_made, row_stands}
use Rattle.runs.specs.Lowest.{group_count, voltage_at, summary}
use Rattle.row_search.specs.Search.{of_discharge, of_galvanostatic, searched, full_read}
use Rattle.row_search.specs.LowestRow.{GroupLowest, summary_lowest, summary_kept}
use Rattle.row_search.specs.FullRead.{search_is_full_read}

-- n rows with finite voltages, and room for the summary of their groups
pub record Left (n : ℕ) (rows lowest₀ : List Float) : Type 0 where
  pub fine : (j : ℕ) → j < n → T (finite (voltage_at rows j))
  pub places : n * 8 ≤ length rows
  pub groups : group_count n ≤ length lowest₀

-- ---- what k turns leave, where each turn that is not refused gives a row with a finite voltage
module _ {S : Type 0} (over : S → ℕ) (turned : S → S) (row : S → List Float) (s : S) (count : S → ℕ) (counts : CountsRows over turned row s count)
    (turned_fine : (x : S) → (over (turned x) ≡ by_refusal → ⊥) → T (finite (get_or (row (turned x)) 0 nan))) where
  abbrev after : ℕ → S
  after k = run_after over turned row k s

  row_fine : (k : ℕ) (l : List Float) → k * 8 ≤ length l → (j : ℕ) → j < count (after k) → T (finite (voltage_at (rows_after over turned row k s l) j))
  row_fine k l p j h =
      let m = row_made over turned row s count counts k j h in
      let e : after (suc j) ≡ turned (after j) = rw (add-one j) at (run_more over turned row s j m.0) in
      let z : j * 8 + 0 ≡ j * 8 = omega arith in
      let q = rw z at (row_stands over turned row s count counts k j 0 l nan h (omega arith) p) in
      rw (q, e) (turned_fine (after j) (λ o. m.1 (ap over e ∙ o)))

  pub turns_left : (k : ℕ) (rows₀ lowest₀ : List Float) → k * 8 ≤ length rows₀ → group_count k ≤ length lowest₀
      → Left (count (after k)) (rows_after over turned row k s rows₀) lowest₀
  unfolding group_count
  turns_left k rows₀ lowest₀ p g =
      let m = count_most over turned row s count counts k in
      let e = rows_length over turned row s k rows₀ in
      record { fine = row_fine k rows₀ p; places = omega (arith, m, e, p); groups = omega (arith, m, g) }

-- a run that is refused as a whole leaves none
pub none_left : (rows₀ lowest₀ : List Float) → Left 0 rows₀ lowest₀
unfolding group_count
none_left rows₀ lowest₀ = record { fine = λ j h. absurd (omega arith); places = omega arith; groups = omega arith }

-- ---- the summary of those rows, kept in a slice that held lowest₀
pub record Summarized (n : ℕ) (rows lowest₀ lowest : List Float) : Type 0 where
  -- the places of the groups, each with the first row that has its group's lowest voltage
  pub groups : (g : ℕ) → g < group_count n → GroupLowest n rows g (get_or lowest g nan)
  -- the places past them
  pub kept : (g : ℕ) (d : Float) → group_count n ≤ g → get_or lowest g d ≡ get_or lowest₀ g d

module _ (n : ℕ) (rows lowest₀ : List Float) (left : Left n rows lowest₀) where
  pub summarized : Summarized n rows lowest₀ (summary n rows lowest₀)
  summarized = record { groups = summary_lowest n rows left.fine lowest₀ left.groups; kept = summary_kept n rows lowest₀ }

  pub search_full : (which : ℕ) → T (count_in_range which of_discharge of_galvanostatic) → (count : ℕ) (v : Float) → count ≤ n → T (finite v)
      → searched which rows (summary n rows lowest₀) count v ≡ full_read rows count v
  search_full which known count v fewer chosen = search_is_full_read n rows lowest₀ left.fine left.places left.groups v chosen which known count fewer
