-- What a call adds to a cell, the report of a step or the ending of a run, is read back. Assumes nothing.
use Rattle.std.specs.Prelude.{ℕ, ◌≤◌, ◌<◌, ◌+◌, ◌*◌, ◌^◌, ◌≡◌, Bool, true, false, cond, List, eqb, length, get_or, Float}
use Rattle.std.proofs.Math.Path.{refl}
use Rattle.std.proofs.Common.{◌∙◌, inl, arith, le_refl, lit≤}
use Rattle.std.specs.Float.{nan}
use Rattle.solver_step.specs.declared.report.SpmState.{SpmState}
use Rattle.dfn.specs.declared.DfnStep.{DfnStep}
use Rattle.codec.specs.Words.{word_at, float_at, put_word, put_row}
use Rattle.image_rows.specs.Written.{put_ending}
use Rattle.cell_images.specs.Images as C
use Rattle.dfn_images.specs.Images as D
use Rattle.image_laws.specs.Words.{word_written}
use Rattle.image_laws.specs.Encodable.{EncodableRow}
use Rattle.image_laws.specs.Rows.{Writes, same_below, same_float, writes_then, writes_word, writes_places, place_read_back}
use Rattle.image_layout.specs.Layout.{cell_report, cell_cutoff, cell_sub_steps, dfn_report, dfn_cutoff, dfn_newton, cell_step_bytes}

-- ---- how a report is read
-- of a single-particle cell
unfoldable pub cell_report_at : List ℕ → SpmState
cell_report_at s = record {
  voltage = float_at s cell_report;
  current = float_at s (cell_report + 1);
  theta_neg = float_at s (cell_report + 2);
  theta_pos = float_at s (cell_report + 3);
  theta_neg_avg = float_at s (cell_report + 4);
  theta_pos_avg = float_at s (cell_report + 5);
  time_s = float_at s (cell_report + 6);
  cutoff = eqb (word_at s cell_cutoff) 1;
}

-- of a Doyle-Fuller-Newman cell
unfoldable pub dfn_report_at : List ℕ → DfnStep
dfn_report_at s = record {
  voltage = float_at s dfn_report;
  current = float_at s (dfn_report + 1);
  time_s = float_at s (dfn_report + 2);
  theta_neg = float_at s (dfn_report + 3);
  theta_pos = float_at s (dfn_report + 4);
  delta_c_e_max = float_at s (dfn_report + 5);
  cutoff = eqb (word_at s dfn_cutoff) 1;
  newton_iter = word_at s dfn_newton;
}

-- ---- numbers, a flag and a count from word `at` on
flag_is : (b : Bool) → eqb (cond b 1 0) 1 ≡ b
flag_is true = refl
flag_is false = refl

flag_most : (b : Bool) → cond b 1 0 < 2 ^ 64
flag_most true = lit≤ tt
flag_most false = lit≤ tt

module _ (s : List ℕ) (at : ℕ) (x : List Float) (b : Bool) (k : ℕ) where
  abbrev r1 : List ℕ
  r1 = put_row s at x

  abbrev r2 : List ℕ
  r2 = put_word r1 (at + length x) (cond b 1 0)

  abbrev pub put_numbers : List ℕ
  put_numbers = put_word r2 (at + length x + 1) k

  flag_and_count : Writes (at + length x) (at + length x + 1 + 1) r1 put_numbers
  flag_and_count = writes_then (omega arith) (omega arith) (writes_word r1 (at + length x) (cond b 1 0)) (writes_word r2 (at + length x + 1) k)

  pub writes_numbers : Writes at (at + length x + 1 + 1) s put_numbers
  writes_numbers = writes_then (omega arith) (omega arith) (writes_places (length x) s at x) flag_and_count

  module _ (l : (at + length x + 2) * 8 ≤ length s) where
    pub reported_read_back : EncodableRow x → (i j : ℕ) → i < length x → j ≡ at + i → float_at put_numbers j ≡ get_or x i nan
    reported_read_back h i j m e =
        same_float (same_below {a = 0} (le_refl (at + length x)) flag_and_count) j (omega arith) (omega (arith, m, e)) ∙ place_read_back s at x (omega (arith, l)) h i j m e

    pub flag_read_back : eqb (word_at put_numbers (at + length x)) 1 ≡ b
    flag_read_back =
        rw ((writes_word r2 (at + length x + 1) k).outside (at + length x) (inl (omega arith)), word_written r1 (at + length x) (cond b 1 0) (rw (writes_places (length x) s at x).size (omega (arith, l))) (flag_most b)) (flag_is b)

    pub count_read_back : k < 2 ^ 64 → word_at put_numbers (at + length x + 1) ≡ k
    count_read_back m =
        word_written r2 (at + length x + 1) k (rw ((writes_word r1 (at + length x) (cond b 1 0)).size, (writes_places (length x) s at x).size) (omega (arith, l))) m

-- ---- a single-particle cell's report
module _ (s : List ℕ) (r : SpmState) (n : ℕ) where
  pub writes_cell_report : Writes cell_report (cell_sub_steps + 1) s (C.put_report s r n)
  unfolding C.put_report
  writes_cell_report = writes_numbers s cell_report (C.state_numbers r) r.cutoff n

  pub report_row_read_back : cell_step_bytes ≤ length s → EncodableRow (C.state_numbers r) → cell_report_at (C.put_report s r n) ≡ r
  unfolding cell_report_at C.put_report
  report_row_read_back l h =
      let x = reported_read_back s cell_report (C.state_numbers r) r.cutoff n l h in
      rw (
        x 0 cell_report (lit≤ tt) refl,
        x 1 (cell_report + 1) (lit≤ tt) refl,
        x 2 (cell_report + 2) (lit≤ tt) refl,
        x 3 (cell_report + 3) (lit≤ tt) refl,
        x 4 (cell_report + 4) (lit≤ tt) refl,
        x 5 (cell_report + 5) (lit≤ tt) refl,
        x 6 (cell_report + 6) (lit≤ tt) refl,
        flag_read_back s cell_report (C.state_numbers r) r.cutoff n l,
      )

  pub sub_steps_word_read_back : cell_step_bytes ≤ length s → n < 2 ^ 64 → word_at (C.put_report s r n) cell_sub_steps ≡ n
  unfolding C.put_report
  sub_steps_word_read_back l m = count_read_back s cell_report (C.state_numbers r) r.cutoff n l m

-- ---- a Doyle-Fuller-Newman cell's report
module _ (s : List ℕ) (r : DfnStep) where
  pub writes_dfn_report : Writes dfn_report (dfn_newton + 1) s (D.put_report s r)
  unfolding D.put_report
  writes_dfn_report = writes_numbers s dfn_report (D.report_numbers r) r.cutoff r.newton_iter

-- ---- a run's ending and its count of rows, from word `at` on
module _ (s : List ℕ) (at ending rows : ℕ) where
  pub writes_ending : Writes at (at + 1 + 1) s (put_ending s at ending rows)
  unfolding put_ending
  writes_ending = writes_then (omega arith) (omega arith) (writes_word s at ending) (writes_word (put_word s at ending) (at + 1) rows)

  module _ (l : (at + 2) * 8 ≤ length s) where
    pub ending_read_back : ending < 2 ^ 64 → word_at (put_ending s at ending rows) at ≡ ending
    unfolding put_ending
    ending_read_back m = (writes_word (put_word s at ending) (at + 1) rows).outside at (inl (omega arith)) ∙ word_written s at ending (omega (arith, l)) m

    pub rows_read_back : rows < 2 ^ 64 → word_at (put_ending s at ending rows) (at + 1) ≡ rows
    unfolding put_ending
    rows_read_back m = word_written (put_word s at ending) (at + 1) rows (rw (writes_word s at ending).size (omega (arith, l))) m
