-- A turn that is not refused writes one row; a run that is not refused has room for its rows and their groups. That a refused turn writes none stands in
-- proofs/Laws. Assumes nothing.
use Rattle.std.specs.Prelude.{◌+◌, ◌/◌, ◌≤◌, ◌≡◌, refl, Bool, true, false, eqb, Float}
use Rattle.std.proofs.Common.{arith, lit<}
use Rattle.std.specs.Float.Ieee.{le}
use Rattle.refusal.specs.Numbers.{neither_refused, passed}
use Rattle.runs.specs.Endings.{by_refusal}
use Rattle.runs.specs.Lowest.{Room, group_count}
use Rattle.runs.specs.LowestLaws.{room_groups}
use Rattle.dfn.specs.declared.DfnSolver.{DfnSolver}
use Rattle.dfn.specs.declared.DfnStep.{DfnStep}
use Rattle.dfn.specs.Answers.{DfnStepAnswer}
use Rattle.galvanostatic_run.specs.declared.RunSettings.{RunSettings}
use Rattle.galvanostatic_run.specs.States.{RunState}
use Rattle.galvanostatic_run.specs.Galvanostatic.{over_after, followed, turned, run_refusal}

followed_rows : (w : RunSettings) (r : RunState) (t : DfnStepAnswer) (b : Bool) → eqb t.refusal 0 ≡ b → ((followed w r t).over ≡ by_refusal → ⊥) → (followed w r t).rows ≡ r.rows + 1
unfolding followed
followed_rows w r t true e h = rw e
followed_rows w r t false e h = absurd (h (rw e))

pub turned_rows : (w : RunSettings) (r : RunState) → ((turned w r).over ≡ by_refusal → ⊥) → (turned w r).rows ≡ r.rows + 1
unfolding turned
turned_rows w r h = followed_rows w r _ _ refl h

-- no row ends a run as refused
pub row_not_refused : (limit : Float) (s : DfnStep) (a b : Bool) → s.cutoff ≡ a → le limit s.time_s ≡ b → over_after limit s ≡ by_refusal → ⊥
unfolding over_after
row_not_refused limit s true b e f h = omega (arith, rw e at h)
row_not_refused limit s false true e f h = omega (arith, rw (e, f) at h)
row_not_refused limit s false false e f h = omega (arith, rw (e, f) at h)

pub run_groups : (d : DfnSolver) (w : RunSettings) (room : Room) → run_refusal d w room ≡ 0 → group_count (room.rows / 8) ≤ room.lowest
unfolding run_refusal
run_groups d w room h = room_groups room (passed _ _ (lit< tt) (neither_refused _ _ (neither_refused _ _ h).1).0)
