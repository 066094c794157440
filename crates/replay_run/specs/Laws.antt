-- A turn that is not refused writes one row. Assumes nothing.
use Rattle.std.specs.Prelude.{ℕ, ◌+◌, ◌≡◌, Bool, List, eqb, Float}
use Rattle.std.proofs.Common.{refl, ap, ◌∙◌, arith}
use Rattle.std.proofs.Math.Bool.{true, false}
use Rattle.runs.specs.Endings.{by_refusal, going_on_of}
use Rattle.solver.specs.Answers.{SpmStepAnswer}
use Rattle.replay_run.specs.Answers.{LoadLine}
use Rattle.replay_run.specs.Answers.{ReplayState}
use Rattle.replay_run.specs.Lines.{line_at}
use Rattle.replay_run.specs.Replay.{refused_line, followed, line_turned, turned}

module _ (text : List ℕ) (temp : Float) (r : ReplayState) where
  followed_rows : (t : SpmStepAnswer) (b : Bool) → eqb t.refusal 0 ≡ b → ((followed text r t).over ≡ by_refusal → ⊥) → (followed text r t).rows ≡ r.rows + 1
  unfolding followed refused_line
  followed_rows t true e h = rw e
  followed_rows t false e h = absurd (h (rw e))

  line_rows : (w : LoadLine) (b : Bool) → w.well_formed ≡ b → ((line_turned text temp r w).over ≡ by_refusal → ⊥) → (line_turned text temp r w).rows ≡ r.rows + 1
  unfolding line_turned refused_line
  line_rows w true e h = rw e (followed_rows _ _ refl (rw e at h))
  line_rows w false e h = absurd (h (rw e))

  pub turned_rows : ((turned text temp r).over ≡ by_refusal → ⊥) → (turned text temp r).rows ≡ r.rows + 1
  unfolding turned
  turned_rows h = line_rows (line_at text r.rows) _ refl h

-- after i turns, while the replay goes on, there are i rows
pub keeps : (text : List ℕ) (temp : Float) (i : ℕ) (r : ReplayState) → r.rows ≡ i → (turned text temp r).over ≡ going_on_of → (turned text temp r).rows ≡ i + 1
keeps text temp i r h z = turned_rows text temp r (λ e. absurd (omega (arith, z, e))) ∙ ap (λ (k : ℕ). k + 1) h
