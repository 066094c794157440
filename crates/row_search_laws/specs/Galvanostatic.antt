-- On the rows and the summary that `run_galvanostatic` left, refused or not. Assumes nothing.
use Rattle.std.specs.Prelude.{ℕ, ◌/◌, ◌≤◌, ◌≡◌, Bool, cond, List, T, eqb, length, get_or, Float}
use Rattle.std.proofs.Math.Path.{refl}
use Rattle.std.proofs.Math.Bool.{true, false}
use Rattle.std.proofs.Common.{arith, eqb-true}
use Rattle.std.specs.Float.{nan}
use Rattle.refusal.specs.Ranges.{finite}
use Rattle.runs.specs.Endings.{by_refusal}
use Rattle.runs.specs.RowPlaces.{CountsRows}
use Rattle.runs.specs.Lowest.{room_of}
use Rattle.dfn.specs.declared.DfnSolver.{DfnSolver}
use Rattle.dfn.specs.Answers.{DfnStepAnswer}
use Rattle.galvanostatic_run.specs.declared.RunSettings.{RunSettings}
use Rattle.galvanostatic_run.specs.States.{RunState}
use Rattle.galvanostatic_run.specs.Galvanostatic.{followed, turned, row_of, over_of, last_row_of, started, RunOutcome, finished_run, all_turns, all_rows, run_settings, run_refusal, galvanostatic, galvanostatic_rows, galvanostatic_lowest}
use Rattle.galvanostatic_run.specs.Laws.{turned_rows, run_groups}
use Rattle.galvanostatic_run.proofs.Laws.{turned_refused}
use Rattle.row_search.specs.Search.{of_galvanostatic, searched, full_read}
use Rattle.row_search.specs.LowestRow.{summary_lowest, summary_kept}
use Rattle.row_search_laws.specs.FiniteVoltage.{dfn_voltage_lem}
use Rattle.row_search_laws.specs.RunLeft.{Left, turns_left, none_left, Summarized, search_full}

-- ---- a turn that is not refused gives a row with a finite voltage
followed_fine : (w : RunSettings) (r : RunState) (t : DfnStepAnswer) (b : Bool) → eqb t.refusal 0 ≡ b → (t.refusal ≡ 0 → T (finite t.report.voltage))
    → ((followed w r t).over ≡ by_refusal → ⊥) → T (finite (get_or (last_row_of (followed w r t)) 0 nan))
unfolding followed row_of
followed_fine w r t true e k h = rw e (k (eqb-true _ _ e))
followed_fine w r t false e k h = absurd (h (rw e))

turned_fine : (w : RunSettings) (r : RunState) → ((turned w r).over ≡ by_refusal → ⊥) → T (finite (get_or (last_row_of (turned w r)) 0 nan))
unfolding turned
turned_fine w r h = followed_fine w r _ _ refl (dfn_voltage_lem r.cell w.current w.dt) h

counts : (w : RunSettings) (d : DfnSolver) → CountsRows over_of (turned w) last_row_of (started d) (λ r. r.rows)
unfolding started
counts w d = record { start = refl; written = λ k o. turned_rows w _; refused = λ k o. turned_refused w _ }

-- ---- what a run leaves in slices that held rows₀ and lowest₀: its count of rows, the rows, the summary
module _ (d : DfnSolver) (current dt limit : Float) (rows₀ lowest₀ : List Float) where
  abbrev pub count : ℕ
  count = (galvanostatic d current dt limit (room_of (length rows₀) (length lowest₀))).rows

  abbrev pub rows : List Float
  rows = galvanostatic_rows d current dt limit rows₀ lowest₀

  abbrev pub lowest : List Float
  lowest = galvanostatic_lowest d current dt limit rows₀ lowest₀

  abbrev w : RunSettings
  w = run_settings current dt limit

  -- the number that refuses the run, 0 for none
  abbrev number : ℕ
  number = run_refusal d w (room_of (length rows₀) (length lowest₀))

  -- the rows for which there is room
  abbrev total : ℕ
  total = length rows₀ / 8

  abbrev refused_run : RunOutcome
  refused_run = record { ended = record { ending = by_refusal; refusal = number }; rows = 0; cell = d }

  left_by : (b : Bool) → eqb number 0 ≡ b → Left (cond b (all_turns w (started d) total) refused_run).rows (cond b (all_rows w (started d) total rows₀) rows₀) lowest₀
  unfolding all_turns all_rows finished_run
  left_by true e =
      turns_left over_of (turned w) last_row_of (started d) (λ r. r.rows) (counts w d) (turned_fine w) total rows₀ lowest₀ (omega arith) (run_groups d w (room_of (length rows₀) (length lowest₀)) (eqb-true _ _ e))
  left_by false e = none_left rows₀ lowest₀

  galvanostatic_left : Left count rows lowest₀
  unfolding galvanostatic galvanostatic_rows
  galvanostatic_left = left_by (eqb number 0) refl

  -- EACH PLACE OF THE SUMMARY is its group's lowest voltage, of equals the first, and the places past the groups are as they were
  pub galvanostatic_summarized : Summarized count rows lowest₀ lowest
  unfolding galvanostatic_lowest
  galvanostatic_summarized =
      record { groups = summary_lowest count rows galvanostatic_left.fine lowest₀ galvanostatic_left.groups; kept = summary_kept count rows lowest₀ }

  -- THE SEARCH IS THE FULL READ from the first row, for every count up to the run's and every finite voltage
  pub galvanostatic_searched : (k : ℕ) (v : Float) → k ≤ count → T (finite v) → searched of_galvanostatic rows lowest k v ≡ full_read rows k v
  unfolding galvanostatic_lowest
  galvanostatic_searched = search_full count rows lowest₀ galvanostatic_left of_galvanostatic tt
