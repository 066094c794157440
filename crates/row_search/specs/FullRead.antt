-- On rows and their summary the search is the full read, where the voltages are finite. Assumes nothing.
use Rattle.std.specs.Prelude.{ℕ, ◌+◌, ◌*◌, ◌/◌, ◌≤◌, ◌<◌, ◌≡◌, refl, Bool, true, false, ◌&&◌, List, Float}
use native.Mathlib.Omega.{arith}
use Rattle.std.proofs.Math.Dec.{T}
use Rattle.std.proofs.Math.ListN.{length, get_or}
use Rattle.std.specs.Float.Ieee.{nan}
use Rattle.std.specs.Float.Ieee.Bits.{is_true}
use borrow.Author.Tests.{eq-eqb, le-leb}
use Rattle.fraction.proofs.Field.{≤F-trans, lt_from}
use Rattle.binary64.proofs.Value.{le_val, lt_val, val_lt}
use Rattle.refusal.specs.Ranges.{count_in_range, finite}
use Rattle.refusal.specs.Numbers.{first_refusal, refusal_unless}
use Rattle.runs.specs.Lowest.{group_count, voltage_at, summary}
use Rattle.runs.specs.LowestLaws.{summary_length}
use Rattle.row_search.specs.Search.{under, looked_at, of_discharge, of_galvanostatic, search_refusal, searched, full_read}
use Rattle.row_search.specs.FirstWhere.{where_cong}
use Rattle.row_search.specs.LowestRow.{summary_lowest}

-- n rows with finite voltages in their eight places each, a summary with a place for each group, and a finite voltage
module _ (n : ℕ) (rows l : List Float) (fine : (j : ℕ) → j < n → T (finite (voltage_at rows j))) (places : n * 8 ≤ length rows) (room : group_count n ≤ length l)
    (v : Float) (chosen : T (finite v)) where
  -- no row under the voltage is passed over: its group's lowest is not above it
  looked_at_lem : (j : ℕ) → j < n → T (under rows v j) → T (looked_at (summary n rows l) v j)
  unfolding group_count
  looked_at_lem j h t =
      let low = get_or (summary n rows l) (j / 64) nan in
      let w = summary_lowest n rows fine l room (j / 64) (omega arith) in
      let p : T (finite low) = rw w.holds (fine w.row w.written) in
      let q = fine j h in
      val_lt low v p chosen (lt_from (lt_val (voltage_at rows j) v q chosen t) (λ a. ≤F-trans a (le_val low (voltage_at rows j) p q (w.least j h refl))))

  same_test : (j : ℕ) → j < n → looked_at (summary n rows l) v j && under rows v j ≡ under rows v j
  same_test j h = by_test (under rows v j) (looked_at (summary n rows l) v j) (looked_at_lem j h)
    where
      by_test : (b a : Bool) → (T b → T a) → a && b ≡ b
      by_test true true k = refl
      by_test true false k = absurd (k tt)
      by_test false true k = refl
      by_test false false k = refl

  module _ (which : ℕ) (known : T (count_in_range which of_discharge of_galvanostatic)) (count : ℕ) (fewer : count ≤ n) where
    not_refused : search_refusal which (length rows) (length (summary n rows l)) count v ≡ 0
    unfolding search_refusal group_count first_refusal refusal_unless
    not_refused =
        let a : count ≤ length rows / 8 = omega arith in
        let b : (count + 63) / 64 ≤ length l = omega arith in
        rw (summary_length n rows l, le-leb count (length rows / 8) a, le-leb ((count + 63) / 64) (length l) b, is_true (count_in_range which of_discharge of_galvanostatic) known, is_true (finite v) chosen)

    -- THE SEARCH IS THE FULL READ, for every count up to n
    pub search_is_full_read : searched which rows (summary n rows l) count v ≡ full_read rows count v
    unfolding searched full_read
    search_is_full_read =
        rw (eq-eqb _ _ not_refused, where_cong (λ j. looked_at (summary n rows l) v j && under rows v j) (under rows v) count (λ j q. same_test j (omega arith)))
