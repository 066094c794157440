-- A replay of a recorded load is a list of the solver's calls, one for each row: row j is the solver's own step with the numbers of line j on the cell that the lines above left.
-- Assumes nothing.
use Rattle.std.specs.Prelude.{ℕ, zero, suc, ◌+◌, ◌*◌, ◌/◌, ◌≤◌, ◌<◌, ◌≡◌, Bool, cond, List, leb, length, Float}
use Rattle.std.proofs.Math.Path.{refl, ap}
use Rattle.std.proofs.Common.{◌∙◌, le_of_eq}
use Rattle.std.proofs.Math.Bool.{true, false}
use native.Mathlib.Omega.{arith}
use borrow.Author.Tests.{eqb-false, leb-true, eq-eqb, le-leb}
use Rattle.std.proofs.Math.Dec.{eqb}
use Rattle.std.proofs.Math.ListN.{get_or}
use Rattle.std.specs.Float.Ieee.{nan}
use Rattle.refusal.specs.Numbers as N
use Rattle.runs.specs.Endings.{by_refusal, by_done}
use Rattle.runs.specs.RowPlaces.{count_most, row_stands, rows_kept}
use Rattle.solver.specs.declared.SpmSolver.{SpmSolver}
use Rattle.solver.specs.Cell.{grid_fits, cell_fits, cell_refusal}
use Rattle.solver_step.specs.declared.report.SpmState.{SpmState}
use Rattle.discharge_run.specs.Discharge.{row_of, refused_run}
use Rattle.replay_run.specs.Lines.{none_left_of}
use Rattle.replay_run.specs.Replay.{started, turned, over_of, last_row_of, finished_replay, all_turns, all_rows, replay_refusal, replayed, replayed_rows}
use Rattle.solver_laws.specs.Demand.{cell_after, taken}
use Rattle.solver_laws.specs.AcceptedLists.{all_taken, Listed, listed_none}
use Rattle.solver_laws.specs.ReplayCalls.{calls_of, line_step, line_refusal, cutoff_after, first_ending, ended_after, TakenLine}
use Rattle.solver_laws.proofs.ReplayTurns.{row_by, line_taken, ended_is, refused_number}
use Rattle.solver_laws.proofs.ReplayTurns.{after_standing, counts}

module _ (text : List ℕ) (temp : Float) (s : SpmSolver) where
  pub replayed_listed : (places : ℕ) → Listed s (replayed text temp s places).solver (calls_of text temp (replayed text temp s places).rows)
  unfolding replayed all_turns finished_replay calls_of
  replayed_listed places = go (eqb (replay_refusal text s temp places) 0)
    where
      go : (b : Bool) → Listed s (cond b (all_turns text temp (started text s) (places / 8)) (refused_run (replay_refusal text s temp places) s)).solver
          (calls_of text temp (cond b (all_turns text temp (started text s) (places / 8)) (refused_run (replay_refusal text s temp places) s)).rows)
      go true = (after_standing text temp s (places / 8)).listed
      go false = listed_none s

  -- THE CELL THAT A REPLAY LEAVES is the cell after one call of `step` for each row, with the numbers of the first lines in order. A line that is refused ends the replay without a
  -- row and adds no call; a replay that is refused as a whole has no rows.
  pub replay_is_list : (places : ℕ) → (replayed text temp s places).solver ≡ cell_after s (calls_of text temp (replayed text temp s places).rows)
  replay_is_list places = (replayed_listed places).cell

  -- and each of them is accepted
  pub replay_accepted : (places : ℕ) → taken s (calls_of text temp (replayed text temp s places).rows) ≡ calls_of text temp (replayed text temp s places).rows
  replay_accepted places = all_taken (replayed_listed places).accepted

  -- EACH LINE THAT HAS A ROW stands whole in the text and is of its form, the row above did not cut off, and the step is accepted
  pub replay_line : (places j : ℕ) → j < (replayed text temp s places).rows → TakenLine text temp s j
  unfolding replayed all_turns finished_replay
  replay_line places j m = go (eqb (replay_refusal text s temp places) 0) m
    where
      go : (b : Bool) → j < (cond b (all_turns text temp (started text s) (places / 8)) (refused_run (replay_refusal text s temp places) s)).rows → TakenLine text temp s j
      go true m = line_taken text temp s (places / 8) j m
      go false m = absurd (omega (arith, m))

  -- so the text has a line for each row
  pub rows_bytes : (places : ℕ) → (replayed text temp s places).rows * 34 ≤ length text
  rows_bytes places = go (replayed text temp s places).rows refl
    where
      go : (n : ℕ) → (replayed text temp s places).rows ≡ n → n * 34 ≤ length text
      go zero e = omega arith
      go (suc k) e = omega (arith, (replay_line places k (omega (arith, e))).bytes)

  -- there was room for the rows
  pub replay_room : (places : ℕ) → (replayed text temp s places).rows * 8 ≤ places
  unfolding replayed all_turns finished_replay
  replay_room places = go (eqb (replay_refusal text s temp places) 0)
    where
      go : (b : Bool) → (cond b (all_turns text temp (started text s) (places / 8)) (refused_run (replay_refusal text s temp places) s)).rows * 8 ≤ places
      go true = omega (arith, count_most over_of (turned text temp) last_row_of (started text s) (λ r. r.rows) (counts text temp s) (places / 8))
      go false = omega arith

  -- ROW j is that of the solver's own step with line j on the cell that the lines above left
  pub replay_row : (l : List Float) (j m : ℕ) → j < (replayed text temp s (length l)).rows → m < 8
      → get_or (replayed_rows text temp s l) (j * 8 + m) nan ≡ get_or (row_of (line_step text temp s j).state) m nan
  unfolding replayed replayed_rows all_turns all_rows finished_replay
  replay_row l j m h n = go (eqb (replay_refusal text s temp (length l)) 0) h
    where
      go : (b : Bool) → j < (cond b (all_turns text temp (started text s) (length l / 8)) (refused_run (replay_refusal text s temp (length l)) s)).rows
          → get_or (cond b (all_rows text temp (started text s) (length l / 8) l) l) (j * 8 + m) nan ≡ get_or (row_of (line_step text temp s j).state) m nan
      go true h =
          row_stands over_of (turned text temp) last_row_of (started text s) (λ r. r.rows) (counts text temp s) (length l / 8) j m l nan h n (omega arith)
          ∙ ap (λ (x : SpmState). get_or (row_of x) m nan) (row_by text temp s (length l / 8) j h).report
      go false h = absurd (omega (arith, h))

  -- and the places after the last row are as they were
  pub replay_kept : (l : List Float) (i : ℕ) (d : Float) → (replayed text temp s (length l)).rows * 8 ≤ i → get_or (replayed_rows text temp s l) i d ≡ get_or l i d
  unfolding replayed replayed_rows all_turns all_rows finished_replay
  replay_kept l i d h = go (eqb (replay_refusal text s temp (length l)) 0) h
    where
      go : (b : Bool) → (cond b (all_turns text temp (started text s) (length l / 8)) (refused_run (replay_refusal text s temp (length l)) s)).rows * 8 ≤ i
          → get_or (cond b (all_rows text temp (started text s) (length l / 8) l) l) i d ≡ get_or l i d
      go true h = rows_kept over_of (turned text temp) last_row_of (started text s) (λ r. r.rows) (counts text temp s) (length l / 8) i l d h
      go false h = refl

  -- HOW A REPLAY ENDS, by its count of rows: voltage, done, full or refused, and no other ending
  pub replay_ends : (places : ℕ) → replay_refusal text s temp places ≡ 0 → (replayed text temp s places).ended ≡ ended_after text temp s (places / 8) (replayed text temp s places).rows
  unfolding replayed all_turns finished_replay
  replay_ends places h = rw (eq-eqb _ _ h) (ended_is text temp s (places / 8))

  -- a replay that ends refused, as a whole or by a line, has the number of a refusal
  pub replay_refused : (places : ℕ) → (replayed text temp s places).ended.ending ≡ by_refusal → (replayed text temp s places).ended.refusal ≡ 0 → ⊥
  unfolding replayed all_turns finished_replay
  replay_refused places f z = go (eqb (replay_refusal text s temp places) 0) refl f z
    where
      go : (b : Bool) → eqb (replay_refusal text s temp places) 0 ≡ b
          → (cond b (all_turns text temp (started text s) (places / 8)) (refused_run (replay_refusal text s temp places) s)).ended.ending ≡ by_refusal
          → (cond b (all_turns text temp (started text s) (places / 8)) (refused_run (replay_refusal text s temp places) s)).ended.refusal ≡ 0 → ⊥
      go true e f z = refused_number text temp s (places / 8) f z
      go false e f z = eqb-false (replay_refusal text s temp places) 0 e z

  -- DONE is the ending where the text has the lines of the rows and no byte more, and the last row did not cut off
  pub replay_done : (places : ℕ) → replay_refusal text s temp places ≡ 0 → length text ≡ (replayed text temp s places).rows * 34 → cutoff_after text temp s (replayed text temp s places).rows ≡ false
      → (replayed text temp s places).ended ≡ record { ending = by_done; refusal = 0 }
  unfolding ended_after
  replay_done places h e c =
      let n : none_left_of text (replayed text temp s places).rows ≡ true = le-leb (length text) _ (le_of_eq e) in
      rw (replay_ends places h, c, n)

  -- and only there
  pub replay_all_read : (places : ℕ) → replay_refusal text s temp places ≡ 0 → (replayed text temp s places).ended.ending ≡ by_done
      → (length text ≡ (replayed text temp s places).rows * 34) × (cutoff_after text temp s (replayed text temp s places).rows ≡ false)
  unfolding ended_after
  replay_all_read places h d =
      let n = (replayed text temp s places).rows in
      let a = go (cutoff_after text temp s n) (none_left_of text n) (leb (places / 8) n) (rw (replay_ends places h) at d) in
      (omega (arith, rows_bytes places, leb-true (length text) (n * 34) a.1), a.0)
    where
      go : (b d f : Bool) → (first_ending b d f (line_refusal text temp s (replayed text temp s places).rows)).ending ≡ by_done → (b ≡ false) × (d ≡ true)
      go true d f e = absurd (omega (arith, e))
      go false true f e = (refl, refl)
      go false false true e = absurd (omega (arith, e))
      go false false false e = absurd (omega (arith, e))

  -- a text without a byte is done with no row
  pub replay_empty : (places : ℕ) → replay_refusal text s temp places ≡ 0 → length text ≡ 0
      → ((replayed text temp s places).rows ≡ 0) × ((replayed text temp s places).ended ≡ record { ending = by_done; refusal = 0 })
  unfolding cutoff_after
  replay_empty places h e =
      let n : (replayed text temp s places).rows ≡ 0 = omega (arith, rows_bytes places, e) in
      (n, replay_done places h (omega (arith, n, e)) (rw n))

  -- the cell of a replay that is not refused as a whole passes the checks
  replay_tests : (places : ℕ) → replay_refusal text s temp places ≡ 0 → (N.refusal_unless (grid_fits s) N.grid ≡ 0) × (N.refusal_unless (cell_fits s) N.sheet ≡ 0)
  unfolding replay_refusal
  replay_tests places h =
      let a = N.neither_refused _ _ (N.neither_refused _ _ h).1 in
      (a.0, (N.neither_refused _ _ (N.neither_refused _ _ a.1).1).0)

  pub replay_passes : (places : ℕ) → replay_refusal text s temp places ≡ 0 → cell_refusal s ≡ 0
  unfolding cell_refusal N.first_refusal
  replay_passes places h = let a = replay_tests places h in rw (a.0, a.1)
