-- The answer of a run of a Doyle-Fuller-Newman cell, where it is written, is read back as the cell after the run, its ending and its count of rows. Assumes nothing.
use Prim.Native.Nat.{ℕ, zero, suc, ◌≤◌, ◌<◌, ◌+◌, ◌/◌, ◌^◌}
use Rattle.std.specs.Prelude.{◌≡◌, cond, List, eqb, length, Float}
use Rattle.std.proofs.Math.Path.{refl, sym}
use Rattle.std.proofs.Common.{ap, ◌∙◌, arith, le_refl, lit≤}
use Rattle.std.proofs.Math.Dec.{T, eqb-suc-zero}
use Rattle.std.specs.Float.{binary64}
use Rattle.std.specs.Float.Ieee.{fits}
use Rattle.std.specs.Float.Ieee.Bits.{is_true}
use Rattle.matrix_rows.specs.Loops.{either}
use Rattle.refusal.specs.Numbers.{neither_refused, not_finite_of}
use Rattle.runs.specs.RunAnswers.{writes_answer}
use Rattle.runs.specs.Lowest.{Room}
use Rattle.runs.specs.Rows.{run_after}
use Rattle.runs.specs.Laws.{run_keeps}
use Rattle.runs.specs.Endings.{by_refusal}
use Rattle.dfn.specs.declared.DfnSolver.{DfnSolver}
use Rattle.dfn.specs.Answers.{DfnStepAnswer}
use Rattle.dfn.specs.Checks as DC
use Rattle.dfn.specs.Step as D
use Rattle.galvanostatic_run.specs.declared.RunSettings.{RunSettings}
use Rattle.galvanostatic_run.specs.States.{RunState}
use Rattle.galvanostatic_run.specs.Galvanostatic.{RunOutcome, run_settings, started, followed, turned, over_of, last_row_of, finished_run, all_turns, run_refusal, galvanostatic}
use Rattle.codec.specs.Words.{word_at}
use Rattle.image_rows.specs.Written.{put_ending}
use Rattle.dfn_images.specs.Images.{cell_at, put_cell}
use Rattle.dfn_calls.specs.Runs.{galvanostatic_after}
use Rattle.image_laws.specs.Layout.{Holds, holds}
use Rattle.image_laws.specs.Reports.{writes_ending, ending_read_back, rows_read_back}
use Rattle.image_laws.specs.DfnImages.{EncodableDfn, writes_dfn, dfn_layout}
use Rattle.image_laws.specs.Turns.{run_rows, ending_most}
use Rattle.image_laws.specs.DfnEncodable.{dfn_at-encodable, dfn_step_encodable}
use Rattle.image_layout.specs.Layout.{dfn_run_bytes}

-- ---- a refused step leaves the cell
pub dfn_step_refused : (d : DfnSolver) (i dt : Float) → ((D.stepped d i dt).refusal ≡ 0 → ⊥) → (D.stepped d i dt).cell ≡ d
unfolding D.stepped D.advanced D.followed D.answered
dfn_step_refused d i dt =
    let r = D.report_of d (D.moved_by d i dt) i dt in
    let new = D.cell_with d (D.moved_by d i dt) r in
    let all : DfnStepAnswer = record { refusal = 0; report = r; cell = new } in
    let P : DfnStepAnswer → Type 0 = λ a. (a.refusal ≡ 0 → ⊥) → a.cell ≡ d in
    either P (eqb (DC.step_refusal d i dt) 0) (cond (D.all_numbers new r) all (D.refused_with not_finite_of d)) (D.refused_with (DC.step_refusal d i dt) d)
    (either P (D.all_numbers new r) all (D.refused_with not_finite_of d) (λ n. absurd (n refl)) (λ n. refl)) (λ n. refl)

-- ---- what a run makes of its cell
module _ (w : RunSettings) where
  turned_encodable : T (fits binary64 w.current) → (c : RunState) → EncodableDfn c.cell → EncodableDfn (turned w c).cell
  unfolding turned followed
  turned_encodable f c h =
      let a = D.stepped c.cell w.current w.dt in
      let k = dfn_step_encodable c.cell w.current w.dt f h in
      either (λ (x : RunState). EncodableDfn x.cell) (eqb a.refusal 0) _ _ k k

  turned_rows : (c : RunState) → (turned w c).rows ≤ c.rows + 1
  unfolding turned followed
  turned_rows c = either (λ (x : RunState). x.rows ≤ c.rows + 1) (eqb (D.stepped c.cell w.current w.dt).refusal 0) _ _ (le_refl (c.rows + 1)) (omega arith)

  -- a run without a row leaves the cell
  turned_idle : (d : DfnSolver) (c : RunState) → (c.rows ≡ 0 → c.cell ≡ d) → (turned w c).rows ≡ 0 → (turned w c).cell ≡ d
  unfolding turned followed
  turned_idle d c f = go (D.stepped c.cell w.current w.dt).refusal refl
    where
      go : (k : ℕ) → (D.stepped c.cell w.current w.dt).refusal ≡ k → (turned w c).rows ≡ 0 → (turned w c).cell ≡ d
      go zero e z = let y : c.rows + 1 ≡ 0 = rw e at z in absurd (omega (arith, y))
      go (suc k) e z =
          let y : c.rows ≡ 0 = rw (e, eqb-suc-zero k) at z in
          rw (e, eqb-suc-zero k)
          (dfn_step_refused c.cell w.current w.dt (λ (x : (D.stepped c.cell w.current w.dt).refusal ≡ 0). let v : suc k ≡ 0 = sym e ∙ x in omega (arith, v)) ∙ f y)

module _ (d : DfnSolver) (i dt limit : Float) (places : Room) where
  abbrev over : RunOutcome
  over = all_turns (run_settings i dt limit) (started d) (places.rows / 8)

  abbrev none : RunOutcome
  none = record { ended = record { ending = by_refusal; refusal = run_refusal d (run_settings i dt limit) places }; rows = 0; cell = d }

  pub dfn_run_encodable : T (fits binary64 i) → EncodableDfn d → EncodableDfn (galvanostatic d i dt limit places).cell
  unfolding galvanostatic all_turns finished_run started
  dfn_run_encodable f h =
      either (λ (x : RunOutcome). EncodableDfn x.cell) (eqb (run_refusal d (run_settings i dt limit) places) 0) over none
      (run_keeps over_of (turned (run_settings i dt limit)) last_row_of (started d) (λ (c : RunState). EncodableDfn c.cell) (λ c o. turned_encodable (run_settings i dt limit) f c) h (places.rows / 8)) h

  pub dfn_run_idle : (galvanostatic d i dt limit places).rows ≡ 0 → (galvanostatic d i dt limit places).cell ≡ d
  unfolding galvanostatic all_turns finished_run started
  dfn_run_idle =
      either (λ (x : RunOutcome). x.rows ≡ 0 → x.cell ≡ d) (eqb (run_refusal d (run_settings i dt limit) places) 0) over none
      (run_keeps over_of (turned (run_settings i dt limit)) last_row_of (started d) (λ (c : RunState). c.rows ≡ 0 → c.cell ≡ d) (λ c o. turned_idle (run_settings i dt limit) d c) (λ z. refl) (places.rows / 8)) (λ z. refl)

  dfn_rows_most : (galvanostatic d i dt limit places).rows ≤ places.rows
  unfolding galvanostatic all_turns finished_run started
  dfn_rows_most =
      let n : (run_after over_of (turned (run_settings i dt limit)) last_row_of (places.rows / 8) (started d)).rows ≤ 0 + places.rows / 8 =
      run_rows over_of (turned (run_settings i dt limit)) last_row_of (λ (c : RunState). c.rows) (turned_rows (run_settings i dt limit)) (places.rows / 8) (started d) in
      either (λ (x : RunOutcome). x.rows ≤ places.rows) (eqb (run_refusal d (run_settings i dt limit) places) 0) over none (omega (arith, n)) (omega arith)

  dfn_run_ending : (galvanostatic d i dt limit places).ended.ending ≤ 6
  unfolding galvanostatic all_turns finished_run
  dfn_run_ending = either (λ (x : RunOutcome). x.ended.ending ≤ 6) (eqb (run_refusal d (run_settings i dt limit) places) 0) over none (ending_most _ _) (lit≤ tt)

  -- an answer that is written comes from a cell that passes the checks
  written_run : T (writes_answer (galvanostatic d i dt limit places).ended.refusal (galvanostatic d i dt limit places).rows) → run_refusal d (run_settings i dt limit) places ≡ 0
  unfolding galvanostatic
  written_run = go (run_refusal d (run_settings i dt limit) places) refl
    where
      go : (k : ℕ) → run_refusal d (run_settings i dt limit) places ≡ k → T (writes_answer (galvanostatic d i dt limit places).ended.refusal (galvanostatic d i dt limit places).rows)
          → run_refusal d (run_settings i dt limit) places ≡ 0
      go zero e t = e
      go (suc k) e t = absurd (rw (e, eqb-suc-zero k, eqb-suc-zero k) at t)

  run_passes : run_refusal d (run_settings i dt limit) places ≡ 0 → DC.cell_refusal d ≡ 0
  unfolding run_refusal
  run_passes h = DC.step_cell d i dt (neither_refused _ _ (neither_refused _ _ (neither_refused _ _ h).1).1).0

-- ---- the answer
module _ (s : List ℕ) (i dt limit : Float) (places : Room) (a : List ℕ) (l : length a ≡ dfn_run_bytes) (f : T (fits binary64 i))
    (h : T (writes_answer (galvanostatic (cell_at s) i dt limit places).ended.refusal (galvanostatic (cell_at s) i dt limit places).rows)) where
  abbrev run : RunOutcome
  run = galvanostatic (cell_at s) i dt limit places

  abbrev new : List ℕ
  new = put_cell a run.cell

  run_cell : EncodableDfn run.cell
  run_cell = dfn_run_encodable (cell_at s) i dt limit places f (dfn_at-encodable s (run_passes (cell_at s) i dt limit places (written_run (cell_at s) i dt limit places h)))

  answer_is : galvanostatic_after s i dt limit places a ≡ put_ending new 1126 run.ended.ending run.rows
  unfolding galvanostatic_after
  answer_is = rw (is_true (writes_answer run.ended.refusal run.rows) h)

  pub dfn_run_answer : Holds 1126 cell_at a (galvanostatic_after s i dt limit places a) (galvanostatic (cell_at s) i dt limit places).cell
  dfn_run_answer =
      rw answer_is
      (holds dfn_layout a run.cell run_cell (rw l (lit≤ tt)) (put_ending new 1126 run.ended.ending run.rows) 1128 (writes_ending new 1126 run.ended.ending run.rows))

  room : dfn_run_bytes ≤ length new
  room = rw ((writes_dfn a run.cell run_cell).size ∙ l) (lit≤ tt)

  pub dfn_run_ending_answer : word_at (galvanostatic_after s i dt limit places a) 1126 ≡ (galvanostatic (cell_at s) i dt limit places).ended.ending
  dfn_run_ending_answer =
      let m = dfn_run_ending (cell_at s) i dt limit places in
      ap (λ (b : List ℕ). word_at b 1126) answer_is ∙ ending_read_back new 1126 run.ended.ending run.rows room (omega (arith, m))

  pub dfn_run_rows_answer : places.rows < 2 ^ 64 → word_at (galvanostatic_after s i dt limit places a) 1127 ≡ (galvanostatic (cell_at s) i dt limit places).rows
  dfn_run_rows_answer n =
      let m = dfn_rows_most (cell_at s) i dt limit places in
      ap (λ (b : List ℕ). word_at b 1127) answer_is ∙ rows_read_back new 1126 run.ended.ending run.rows room (omega (arith, m, n))
