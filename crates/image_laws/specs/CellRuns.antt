-- The answer of a run of a single-particle cell, of the replay of a recorded load or of a cycle of phases on it, where it is written, is read back as the cell after the run, its
-- ending and its count of rows. Assumes nothing.
use Rattle.std.specs.Prelude.{ℕ, zero, suc, ◌≤◌, ◌<◌, ◌+◌, ◌/◌, ◌^◌, ◌≡◌, true, cond, List, [], ◌∷◌, T, eqb, length, replicate, Float}
use Rattle.std.proofs.Math.Path.{refl, ap}
use Rattle.std.proofs.Common.{◌∙◌, arith, zero-lt-suc, le_refl, eq-eqb, ne_eqb, lit≤}
use Rattle.std.proofs.Math.Dec.{eqb-suc-zero}
use Rattle.std.specs.Float.Ieee.Bits.{is_true}
use Rattle.matrix_rows.specs.Loops.{either}
use Rattle.refusal.specs.Numbers.{sheet, file, first_refusal, neither_refused, passed}
use Rattle.runs.specs.RunAnswers.{writes_answer}
use Rattle.runs.specs.Rows.{run_after}
use Rattle.runs.specs.Lowest.{Room}
use Rattle.solver.specs.declared.SpmSolver.{SpmSolver}
use Rattle.solver.specs.Cell.{cell_refusal}
use Rattle.solver.specs.Step.{stepped}
use Rattle.solver_laws.specs.Demand.{Call, answer, cell_after}
use Rattle.solver_laws.specs.RunLists.{call_of, calls_of, run_passes}
use Rattle.solver_laws.proofs.RunLists.{run_is_list}
use Rattle.solver_laws.specs.ReplayCalls as RC
use Rattle.solver_laws.proofs.ReplayLists.{replay_is_list, replay_room, replay_passes}
use Rattle.solver_laws.specs.CycleCalls as YC
use Rattle.solver_laws.specs.CycleLists.{cycle_passes}
use Rattle.solver_laws.proofs.CycleLists.{cycle_is_list, cycle_room}
use Rattle.discharge_run.specs.declared.RunSettings.{RunSettings}
use Rattle.discharge_run.specs.States.{RunState}
use Rattle.discharge_run.specs.Discharge.{RunOutcome, run_settings, started, followed, turned, over_of, last_row_of, finished_run, all_turns, run_refusal, refused_run, discharged}
use Rattle.replay_run.specs.Replay as R
use Rattle.cycle_run.specs.declared.phases.Phase.{Phase}
use Rattle.cycle_run.specs.declared.CycleSettings.{CycleSettings}
use Rattle.cycle_run.specs.Cycle as Y
use Rattle.codec.specs.Words.{word_at}
use Rattle.image_rows.specs.Written.{put_ending}
use Rattle.cell_images.specs.Images.{cell_at, put_cell}
use Rattle.cell_calls.specs.Phases.{kinds_fit, phases_at}
use Rattle.cell_calls.specs.Runs as CR
use Rattle.cell_calls.specs.Runs.{run_written}
use Rattle.boundary.specs.Runs as BR
use Rattle.image_laws.specs.Layout.{Holds, holds}
use Rattle.image_laws.specs.CellImages.{EncodableCell, writes_cell, cell_layout}
use Rattle.image_laws.specs.Reports.{writes_ending, ending_read_back, rows_read_back}
use Rattle.image_laws.specs.CellEncodable.{cell_at-encodable, step_encodable}
use Rattle.image_laws.specs.Turns.{run_rows, ending_most}
use Rattle.image_layout.specs.Layout.{cell_bytes, cell_run_bytes, phases_bytes, cell_ending}

-- ---- what a run makes of its cell: it is a list of calls
after_encodable : (qs : List Call) (s : SpmSolver) → EncodableCell s → EncodableCell (cell_after s qs)
unfolding cell_after
after_encodable [] s h = h
after_encodable (q ∷ qs) s h = after_encodable qs (answer s q).solver (step_encodable s q.current q.dt q.temp h)

-- a run that its inputs refuse, k, writes no answer
inputs_passed : (k : ℕ) (x : RunOutcome) (s : SpmSolver) → T (writes_answer (cond (eqb k 0) x (refused_run k s)).ended.refusal (cond (eqb k 0) x (refused_run k s)).rows) → k ≡ 0
inputs_passed zero x s t = refl
inputs_passed (suc k) x s t = absurd (rw (eqb-suc-zero k, eqb-suc-zero k) at t)

-- and its ending is that of a refusal, else that of its turns
whole_ending : (k : ℕ) (x : RunOutcome) (s : SpmSolver) → x.ended.ending ≤ 6 → (cond (eqb k 0) x (refused_run k s)).ended.ending ≤ 6
whole_ending k x s h = either (λ (y : RunOutcome). y.ended.ending ≤ 6) (eqb k 0) x (refused_run k s) h (lit≤ tt)

-- what is to be shown of a run r on the cell c: it is a list of calls, on a cell that passes the checks where its answer is written, and has no more rows than places
record RunOn (c : SpmSolver) (r : RunOutcome) (places : ℕ) : Type 0 where
  calls : List Call
  is_list : r.solver ≡ cell_after c calls
  passes : T (writes_answer r.ended.refusal r.rows) → cell_refusal c ≡ 0
  ending : r.ended.ending ≤ 6
  rows : r.rows ≤ places

-- one that is refused as a whole
refused_on : (k : ℕ) (c : SpmSolver) (places : ℕ) → (k ≡ 0 → ⊥) → RunOn c (refused_run k c) places
unfolding cell_after
refused_on k c places n = record { calls = []; is_list = refl; passes = λ t. absurd (rw (ne_eqb k 0 n) at t); ending = lit≤ tt; rows = omega arith }

-- ---- a constant current
module _ (w : RunSettings) where
  turned_rows : (r : RunState) → (turned w r).rows ≤ r.rows + 1
  unfolding turned followed
  turned_rows r = either (λ (x : RunState). x.rows ≤ r.rows + 1) (eqb (stepped r.solver w.current_a w.dt w.temp_k).refusal 0) _ _ (le_refl (r.rows + 1)) (omega arith)

  -- a run without a row leaves the cell
  pub run_idle : (s : SpmSolver) (places : Room) → (discharged w s places).rows ≡ 0 → (discharged w s places).solver ≡ s
  unfolding cell_after
  run_idle s places h = run_is_list w s places ∙ ap (λ (k : ℕ). cell_after s (replicate k (call_of w))) h

  pub rows_most : (s : SpmSolver) (places : Room) → (discharged w s places).rows ≤ places.rows
  unfolding discharged all_turns finished_run started
  rows_most s places =
      let n : (run_after over_of (turned w) last_row_of (places.rows / 8) (started w s)).rows ≤ 0 + places.rows / 8 = run_rows over_of (turned w) last_row_of (λ (r : RunState). r.rows) turned_rows (places.rows / 8) (started w s) in
      either (λ (x : RunOutcome). x.rows ≤ places.rows) (eqb (run_refusal w s places) 0) (all_turns w (started w s) (places.rows / 8)) (refused_run (run_refusal w s places) s) (omega (arith, n)) (omega arith)

  run_on : (s : SpmSolver) (places : Room) → RunOn s (discharged w s places) places.rows
  unfolding discharged all_turns finished_run
  run_on s places = record {
    calls = calls_of w s places;
    is_list = run_is_list w s places;
    passes = λ t. run_passes w s places (inputs_passed (run_refusal w s places) (all_turns w (started w s) (places.rows / 8)) s t);
    ending = whole_ending (run_refusal w s places) (all_turns w (started w s) (places.rows / 8)) s (ending_most _ _);
    rows = rows_most s places;
  }

-- ---- a recorded load
module _ (text : List ℕ) (t : Float) where
  -- a replay without a row leaves the cell
  pub replay_idle : (s : SpmSolver) (places : ℕ) → (R.replayed text t s places).rows ≡ 0 → (R.replayed text t s places).solver ≡ s
  unfolding cell_after RC.calls_of
  replay_idle s places h = replay_is_list text t s places ∙ ap (λ (k : ℕ). cell_after s (RC.calls_of text t k)) h

  replay_inputs : (s : SpmSolver) (places : ℕ) → T (writes_answer (R.replayed text t s places).ended.refusal (R.replayed text t s places).rows) → R.replay_refusal text s t places ≡ 0
  unfolding R.replayed
  replay_inputs s places h = inputs_passed (R.replay_refusal text s t places) (R.all_turns text t (R.started text s) (places / 8)) s h

  replay_text : (s : SpmSolver) (places : ℕ) → R.replay_refusal text s t places ≡ 0 → R.text_fits text ≡ true
  unfolding R.replay_refusal
  replay_text s places h = is_true (R.text_fits text) (passed (R.text_fits text) file (zero-lt-suc 11) (neither_refused _ _ h).0)

  replay_on : (s : SpmSolver) (places : ℕ) → RunOn s (R.replayed text t s places) places
  unfolding R.replayed R.all_turns R.finished_replay
  replay_on s places = record {
    calls = RC.calls_of text t (R.replayed text t s places).rows;
    is_list = replay_is_list text t s places;
    passes = λ h. replay_passes text t s places (replay_inputs s places h);
    ending = whole_ending (R.replay_refusal text s t places) (R.all_turns text t (R.started text s) (places / 8)) s (ending_most _ _);
    rows = let n = replay_room text t s places in omega (arith, n);
  }

-- ---- phases
cycled_on : (l : List Phase) (g : CycleSettings) (c : SpmSolver) (places : ℕ) → RunOn c (Y.cycled l g c places) places
unfolding Y.cycled Y.all_turns Y.finished_cycle
cycled_on l g c places = record {
  calls = YC.calls_of l g c (Y.cycled l g c places).rows;
  is_list = cycle_is_list l g c places;
  passes = λ t. cycle_passes l g c places (inputs_passed (Y.cycle_refusal l g c places) (Y.all_turns g (Y.start_of l g c)) c t);
  ending = whole_ending (Y.cycle_refusal l g c places) (Y.all_turns g (Y.start_of l g c)) c (ending_most _ _);
  rows = let n = cycle_room l g c places in omega (arith, n);
}

-- in an image, where a kind that is not listed refuses the whole
module _ (phases : List ℕ) (g : CycleSettings) (c : SpmSolver) (places : ℕ) where
  abbrev kind_refusal : ℕ
  kind_refusal = first_refusal (Y.counts_refusal g c places) sheet

  either_cycle : (P : RunOutcome → Type 0) → P (Y.cycled (phases_at phases) g c places) → P (refused_run kind_refusal c) → P (CR.cycled_from phases g c places)
  unfolding CR.cycled_from
  either_cycle P = either P (kinds_fit phases g.count) (Y.cycled (phases_at phases) g c places) (refused_run kind_refusal c)

  -- THE CELL THAT A CYCLE LEAVES is the cell after one call of `step` for each row, as that of the phases in the image
  pub image_cycle_is_list : (CR.cycled_from phases g c places).solver ≡ cell_after c (YC.calls_of (phases_at phases) g c (CR.cycled_from phases g c places).rows)
  unfolding cell_after YC.made_by
  image_cycle_is_list = either_cycle (λ (r : RunOutcome). r.solver ≡ cell_after c (YC.calls_of (phases_at phases) g c r.rows)) (cycle_is_list (phases_at phases) g c places) refl

  -- a cycle without a row leaves the cell
  pub cycle_idle : (CR.cycled_from phases g c places).rows ≡ 0 → (CR.cycled_from phases g c places).solver ≡ c
  unfolding cell_after YC.made_by
  cycle_idle h = image_cycle_is_list ∙ ap (λ (k : ℕ). cell_after c (YC.calls_of (phases_at phases) g c k)) h

  cycle_on : RunOn c (CR.cycled_from phases g c places) places
  cycle_on =
      let n : kind_refusal ≡ 0 → ⊥ = λ z. (let y = (neither_refused _ _ z).1 in omega (arith, y)) in
      either_cycle (λ (r : RunOutcome). RunOn c r places) (cycled_on (phases_at phases) g c places) (refused_on kind_refusal c places n)

-- ---- the answer
-- what bytes after the answer a hold of a run
pub record RunHeld (b a : List ℕ) (r : RunOutcome) (places : ℕ) : Type 0 where
  pub cell : Holds cell_ending cell_at a b r.solver
  pub ending : word_at b cell_ending ≡ r.ended.ending
  pub rows : places < 2 ^ 64 → word_at b (cell_ending + 1) ≡ r.rows

module _ (s : List ℕ) (r : RunOutcome) (places : ℕ) (d : RunOn (cell_at s) r places) (a : List ℕ) (l : length a ≡ cell_run_bytes) (h : T (writes_answer r.ended.refusal r.rows)) where
  abbrev new : List ℕ
  new = put_cell a r.solver

  encodable : EncodableCell r.solver
  encodable = rw d.is_list (after_encodable d.calls (cell_at s) (cell_at-encodable s (d.passes h)))

  answer_is : run_written r a ≡ put_ending new cell_ending r.ended.ending r.rows
  unfolding run_written
  answer_is = rw (is_true (writes_answer r.ended.refusal r.rows) h)

  room : cell_run_bytes ≤ length new
  room = rw ((writes_cell a r.solver encodable).size ∙ l) (lit≤ tt)

  run_held : RunHeld (run_written r a) a r places
  run_held = rw answer_is (record {
    cell = holds cell_layout a r.solver encodable (rw l (lit≤ tt)) (put_ending new cell_ending r.ended.ending r.rows) (cell_ending + 2) (writes_ending new cell_ending r.ended.ending r.rows);
    ending = let m = d.ending in ending_read_back new cell_ending r.ended.ending r.rows room (omega (arith, m));
    rows = λ n. let m = d.rows in rows_read_back new cell_ending r.ended.ending r.rows room (omega (arith, m, n));
  })

-- of `pj_simulate_discharge`
pub discharge_held : (s : List ℕ) (i dt t limit : Float) (places : Room) (a : List ℕ) → length s ≡ cell_bytes → length a ≡ cell_run_bytes
    → T (writes_answer (discharged (run_settings i dt t limit) (cell_at s) places).ended.refusal (discharged (run_settings i dt t limit) (cell_at s) places).rows)
    → RunHeld (BR.discharge_after s i dt t limit places a) a (discharged (run_settings i dt t limit) (cell_at s) places) places.rows
unfolding BR.discharge_after CR.discharge_after
discharge_held s i dt t limit places a m n h =
    rw (eq-eqb (length s) cell_bytes m, eq-eqb (length a) cell_run_bytes n)
    (run_held s (discharged (run_settings i dt t limit) (cell_at s) places) places.rows (run_on (run_settings i dt t limit) (cell_at s) places) a n h)

-- of `pj_replay`
pub replay_held : (s text : List ℕ) (t : Float) (places : ℕ) (a : List ℕ) → length s ≡ cell_bytes → length a ≡ cell_run_bytes
    → T (writes_answer (R.replayed text t (cell_at s) places).ended.refusal (R.replayed text t (cell_at s) places).rows)
    → RunHeld (BR.replay_after s text t places a) a (R.replayed text t (cell_at s) places) places
unfolding BR.replay_after CR.replay_after
replay_held s text t places a m n h =
    rw (replay_text text t (cell_at s) places (replay_inputs text t (cell_at s) places h), eq-eqb (length s) cell_bytes m, eq-eqb (length a) cell_run_bytes n)
    (run_held s (R.replayed text t (cell_at s) places) places (replay_on text t (cell_at s) places) a n h)

-- of `pj_cycle`
pub cycle_held : (s phases : List ℕ) (g : CycleSettings) (places : ℕ) (a : List ℕ) → length s ≡ cell_bytes → length phases ≡ phases_bytes → length a ≡ cell_run_bytes
    → T (writes_answer (CR.cycled_from phases g (cell_at s) places).ended.refusal (CR.cycled_from phases g (cell_at s) places).rows)
    → RunHeld (BR.cycle_after s phases g places a) a (CR.cycled_from phases g (cell_at s) places) places
unfolding BR.cycle_after CR.cycle_after
cycle_held s phases g places a m p n h =
    rw (eq-eqb (length s) cell_bytes m, eq-eqb (length phases) phases_bytes p, eq-eqb (length a) cell_run_bytes n)
    (run_held s (CR.cycled_from phases g (cell_at s) places) places (cycle_on phases g (cell_at s) places) a n h)
