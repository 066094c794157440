-- A turn that is refused writes no row. Assumes nothing.
use Rattle.std.specs.Prelude.{◌≡◌, refl, Bool, true, false, eqb}
use Rattle.runs.specs.Endings.{by_refusal}
use Rattle.dfn.specs.Answers.{DfnStepAnswer}
use Rattle.galvanostatic_run.specs.declared.RunSettings.{RunSettings}
use Rattle.galvanostatic_run.specs.States.{RunState}
use Rattle.galvanostatic_run.specs.Galvanostatic.{followed, turned}
use Rattle.galvanostatic_run.specs.Laws.{row_not_refused}

followed_refused : (w : RunSettings) (r : RunState) (t : DfnStepAnswer) (b : Bool) → eqb t.refusal 0 ≡ b → (followed w r t).over ≡ by_refusal → (followed w r t).rows ≡ r.rows
unfolding followed
followed_refused w r t true e h = absurd (row_not_refused w.limit t.report _ _ refl refl (rw e at h))
followed_refused w r t false e h = rw e

pub turned_refused : (w : RunSettings) (r : RunState) → (turned w r).over ≡ by_refusal → (turned w r).rows ≡ r.rows
unfolding turned
turned_refused w r h = followed_refused w r _ _ refl h
