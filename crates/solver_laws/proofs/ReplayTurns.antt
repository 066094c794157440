-- The turns of a replay, as lines: its cell is that after the calls of its lines, its last report that of its last line, and what has ended it. Assumes nothing.
use Rattle.std.specs.Prelude.{ℕ, suc, ◌+◌, ◌*◌, ◌≤◌, ◌<◌, ◌≡◌, Bool, List, eqb, Float}
use Rattle.std.proofs.Math.Path.{refl, ap, subst}
use Rattle.std.proofs.Common.{sym, ◌∙◌, arith}
use Rattle.std.proofs.Math.Bool.{true, false, cond}
use Rattle.std.proofs.Math.Numerals.{add-one}
use borrow.Author.Tests.{eqb-true, eqb-false, leb-true, le-leb, lt-leb}
use Rattle.std.proofs.Math.Dec.{T, leb}
use Rattle.std.proofs.Math.ListN.{length}
use Rattle.refusal.specs.Numbers as N
use Rattle.runs.specs.Endings.{ending_of, going_on_of, by_voltage, by_refusal, by_done}
use Rattle.runs.specs.Rows.{run_after}
use Rattle.runs.specs.Laws.{run_keeps}
use Rattle.runs.specs.RowPlaces.{CountsRows, count_on, row_made, row_count, refused_room}
use Rattle.runs.specs.Causes.{Cause, rows_go_on, cause_number}
use Rattle.solver.specs.declared.SpmSolver.{SpmSolver}
use Rattle.solver.specs.Answers.{SpmStepAnswer}
use Rattle.solver_step.specs.declared.report.SpmState.{SpmState}
use Rattle.replay_run.specs.Answers.{ReplayState}
use Rattle.replay_run.specs.Lines.{line_from, no_line, line_at, none_left_of}
use Rattle.replay_run.specs.Replay.{over_after, started, refused_line, followed, line_turned, turned, over_of, last_row_of}
use Rattle.replay_run.specs.Laws.{turned_rows}
use Rattle.solver_laws.specs.Demand.{answer}
use Rattle.solver_laws.specs.AcceptedLists.{Listed, listed_none, listed_more}
use Rattle.solver_laws.specs.ReplayCalls.{call_at, calls_of, line_step, line_refusal, cutoff_after, first_ending, ended_after, TakenLine}

module _ (text : List ℕ) (temp : Float) (s : SpmSolver) where
  -- what n rows make of it
  abbrev pub over_at : ℕ → ℕ
  over_at n = over_after text (cutoff_after text temp s n) n

  -- what has ended it so far: its rows, or the line after them, which is refused
  abbrev pub OverBy : ReplayState → Type 0
  OverBy r = Cause over_at (line_refusal text temp s) r.rows r.over r.refusal

  -- line k was well formed and accepted, and this is its report
  pub record RowBy (x : SpmState) (k : ℕ) : Type 0 where
    pub report : x ≡ (line_step text temp s k).state
    pub form : (line_at text k).well_formed ≡ true
    pub accepted : (line_step text temp s k).refusal ≡ 0

  -- where a replay stands
  pub record Standing (r : ReplayState) : Type 0 where
    pub listed : Listed s r.solver (calls_of text temp r.rows)
    pub last : (k : ℕ) → r.rows ≡ suc k → RowBy r.state k
    pub over : OverBy r

  -- while it goes on, no row cut off and a byte is left
  going : (r : ReplayState) → r.over ≡ 0 → OverBy r → over_at r.rows ≡ going_on_of
  going r o c = rows_go_on over_at (line_refusal text temp s) r.rows r.over r.refusal o c

  refused_standing : (r : ReplayState) (k : ℕ) → r.over ≡ 0 → Standing r → k ≡ line_refusal text temp s r.rows → (k ≡ 0 → ⊥) → Standing (refused_line r k)
  unfolding refused_line
  refused_standing r k o c e n = record { listed = c.listed; last = c.last; over = Cause.step refl (going r o c.over) e n }

  followed_standing : (r : ReplayState) (b : Bool) → r.over ≡ 0 → Standing r → (line_at text r.rows).well_formed ≡ true
      → eqb (answer r.solver (call_at text temp r.rows)).refusal 0 ≡ b → Standing (followed text r (answer r.solver (call_at text temp r.rows)))
  unfolding followed calls_of cutoff_after
  followed_standing r true o c w e =
      let q = call_at text temp r.rows in
      let h = eqb-true (answer r.solver q).refusal 0 e in
      let a : answer r.solver q ≡ line_step text temp s r.rows = ap (λ (x : SpmSolver). answer x q) c.listed.cell in
      rw (e, add-one r.rows) (record {
        listed = listed_more s r.solver (calls_of text temp r.rows) q c.listed h;
        last = λ k z.
            let y : r.rows ≡ k = omega (arith, z) in
            subst (RowBy (answer r.solver q).state) y (record { report = ap (λ (x : SpmStepAnswer). x.state) a; form = w; accepted = ap (λ (x : SpmStepAnswer). x.refusal) (sym a) ∙ h });
        over = Cause.rows (ap (λ (x : SpmStepAnswer). over_after text x.state.cutoff (suc r.rows)) a);
      })
  followed_standing r false o c w e =
      let q = call_at text temp r.rows in
      rw e (refused_standing r (answer r.solver q).refusal o c (rw w (ap (λ (x : SpmSolver). (answer x q).refusal) c.listed.cell)) (eqb-false (answer r.solver q).refusal 0 e))

  turned_standing : (r : ReplayState) → r.over ≡ 0 → Standing r → Standing (turned text temp r)
  unfolding turned line_turned
  turned_standing r o c = go (line_at text r.rows).well_formed refl
    where
      go : (b : Bool) → (line_at text r.rows).well_formed ≡ b → Standing (line_turned text temp r (line_at text r.rows))
      go true w = rw w (followed_standing r _ o c w refl)
      go false w = rw w (refused_standing r N.line o c (rw w) (λ z. omega (arith, z)))

  start_standing : Standing (started text s)
  unfolding started calls_of cutoff_after
  start_standing = record { listed = listed_none s; last = λ k e. absurd (omega (arith, e)); over = Cause.rows refl }

  pub after_standing : (k : ℕ) → Standing (run_after over_of (turned text temp) last_row_of k (started text s))
  after_standing = run_keeps over_of (turned text temp) last_row_of (started text s) Standing turned_standing start_standing

  -- ---- the state counts its rows
  row_ends : (cutoff : Bool) (n : ℕ) → over_after text cutoff n ≡ by_refusal → ⊥
  unfolding over_after
  row_ends true n e = omega (arith, e)
  row_ends false n e = go (none_left_of text n) e
    where
      go : (b : Bool) → cond b by_done going_on_of ≡ by_refusal → ⊥
      go true e = omega (arith, e)
      go false e = omega (arith, e)

  followed_refused : (r : ReplayState) (t : SpmStepAnswer) (b : Bool) → eqb t.refusal 0 ≡ b → (followed text r t).over ≡ by_refusal → (followed text r t).rows ≡ r.rows
  unfolding followed refused_line
  followed_refused r t true e h = absurd (row_ends t.state.cutoff (r.rows + 1) (rw e at h))
  followed_refused r t false e h = rw e

  turned_refused : (r : ReplayState) → (turned text temp r).over ≡ by_refusal → (turned text temp r).rows ≡ r.rows
  unfolding turned line_turned refused_line
  turned_refused r = go (line_at text r.rows).well_formed refl
    where
      go : (b : Bool) → (line_at text r.rows).well_formed ≡ b → (turned text temp r).over ≡ by_refusal → (turned text temp r).rows ≡ r.rows
      go true w h = rw w (followed_refused r _ _ refl (rw w at h))
      go false w h = rw w

  pub counts : CountsRows over_of (turned text temp) last_row_of (started text s) (λ r. r.rows)
  unfolding started
  counts = record { start = refl; written = λ k o. turned_rows text temp _; refused = λ k o. turned_refused _ }

  -- ---- the lines that have a row
  line_bytes : (k : ℕ) → (line_at text k).well_formed ≡ true → k * 34 + 34 ≤ length text
  unfolding line_at
  line_bytes k = go (leb (k * 34 + 34) (length text)) refl
    where
      go : (b : Bool) → leb (k * 34 + 34) (length text) ≡ b → (cond b (line_from text (k * 34)) no_line).well_formed ≡ true → k * 34 + 34 ≤ length text
      go true e w = leb-true _ _ e
      go false e w = absurd (subst T (sym w) tt)

  goes_on : (n : ℕ) → over_at n ≡ going_on_of → (cutoff_after text temp s n ≡ false) × (none_left_of text n ≡ false)
  unfolding over_after
  goes_on n = go (cutoff_after text temp s n) (none_left_of text n)
    where
      go : (b d : Bool) → cond b by_voltage (cond d by_done going_on_of) ≡ going_on_of → (b ≡ false) × (d ≡ false)
      go true d e = absurd (omega (arith, e))
      go false true e = absurd (omega (arith, e))
      go false false e = (refl, refl)

  ended_of : (r : ReplayState) (total : ℕ) → OverBy r → (r.over ≡ 0 → leb total r.rows ≡ true) → (r.over ≡ by_refusal → leb total r.rows ≡ false)
      → ending_of r.over r.refusal ≡ ended_after text temp s total r.rows
  unfolding ending_of ended_after over_after
  ended_of r total (Cause.rows e) f g = rw e (by_rows (cutoff_after text temp s r.rows) (none_left_of text r.rows) (leb total r.rows) r.refusal (λ z. f (e ∙ z)))
    where
      by_rows : (b d f : Bool) (k : ℕ) → (cond b by_voltage (cond d by_done going_on_of) ≡ 0 → f ≡ true)
          → ending_of (cond b by_voltage (cond d by_done going_on_of)) k ≡ first_ending b d f (line_refusal text temp s r.rows)
      by_rows true d f k h = refl
      by_rows false true f k h = refl
      by_rows false false f k h = rw (h refl)
  ended_of r total (Cause.step o h k n) f g = rw (o, k, (goes_on r.rows h).0, (goes_on r.rows h).1, g o)

  rows_refuse_not : (n k : ℕ) → (ending_of (over_at n) k).ending ≡ by_refusal → ⊥
  unfolding ending_of over_after
  rows_refuse_not n k = go (cutoff_after text temp s n) (none_left_of text n)
    where
      go : (b d : Bool) → (ending_of (cond b by_voltage (cond d by_done going_on_of)) k).ending ≡ by_refusal → ⊥
      go true d f = omega (arith, f)
      go false true f = omega (arith, f)
      go false false f = omega (arith, f)

  start_on : (started text s).over ≡ by_refusal → ⊥
  unfolding started
  start_on = row_ends false 0

  module _ (total : ℕ) where
    abbrev after : ℕ → ReplayState
    after k = run_after over_of (turned text temp) last_row_of k (started text s)

    module _ (j : ℕ) (m : j < (after total).rows) where
      pub row_by : RowBy (after (suc j)).state j
      row_by = (after_standing (suc j)).last j (row_count over_of (turned text temp) last_row_of (started text s) (λ r. r.rows) counts total j m)

      pub line_taken : TakenLine text temp s j
      line_taken =
          let o = (row_made over_of (turned text temp) last_row_of (started text s) (λ r. r.rows) counts total j m).0 in
          let e : (after j).rows ≡ j = count_on over_of (turned text temp) last_row_of (started text s) (λ r. r.rows) counts j o in
          let g : over_at j ≡ going_on_of = rw e at (going (after j) o (after_standing j).over) in
          record { bytes = line_bytes j row_by.form; window = (goes_on j g).0; form = row_by.form; accepted = row_by.accepted }

    pub ended_is : ending_of (after total).over (after total).refusal ≡ ended_after text temp s total (after total).rows
    ended_is =
        ended_of (after total) total (after_standing total).over
        (λ o. le-leb total (after total).rows (omega (arith, count_on over_of (turned text temp) last_row_of (started text s) (λ r. r.rows) counts total o)))
        (λ o. lt-leb total (after total).rows (refused_room over_of (turned text temp) last_row_of (started text s) (λ r. r.rows) counts start_on total o))

    pub refused_number : (ending_of (after total).over (after total).refusal).ending ≡ by_refusal → (ending_of (after total).over (after total).refusal).refusal ≡ 0 → ⊥
    refused_number = let r = after total in cause_number over_at (line_refusal text temp s) r.rows r.over r.refusal (rows_refuse_not r.rows r.refusal) (after_standing total).over
