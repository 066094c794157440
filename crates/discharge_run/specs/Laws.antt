-- A turn that is not refused writes one row, one that is refused none; a run that is not refused has room for its rows and their groups. Assumes nothing.
use Rattle.std.specs.Prelude.{◌+◌, ◌/◌, ◌≤◌, ◌≡◌, refl, Bool, true, false, eqb, Float}
use Rattle.std.proofs.Common.{arith, lit<}
use Rattle.binary64.specs.Operators.{◌⊕◌}
use Rattle.refusal.specs.Numbers.{neither_refused, passed}
use Rattle.runs.specs.Endings.{by_refusal}
use Rattle.runs.specs.Lowest.{Room, group_count}
use Rattle.runs.specs.LowestLaws.{room_groups}
use Rattle.solver.specs.declared.SpmSolver.{SpmSolver}
use Rattle.solver.specs.Answers.{SpmStepAnswer}
use Rattle.discharge_run.specs.declared.RunSettings.{RunSettings}
use Rattle.discharge_run.specs.States.{RunState}
use Rattle.discharge_run.specs.Discharge.{time_over, over_after, followed, turned, run_refusal}

followed_rows : (w : RunSettings) (r : RunState) (t : SpmStepAnswer) (b : Bool) → eqb t.refusal 0 ≡ b → ((followed w r t).over ≡ by_refusal → ⊥) → (followed w r t).rows ≡ r.rows + 1
unfolding followed
followed_rows w r t true e h = rw e
followed_rows w r t false e h = absurd (h (rw e))

pub turned_rows : (w : RunSettings) (r : RunState) → ((turned w r).over ≡ by_refusal → ⊥) → (turned w r).rows ≡ r.rows + 1
unfolding turned
turned_rows w r h = followed_rows w r _ _ refl h

-- no row ends a run as refused
row_not_refused : (w : RunSettings) (cutoff : Bool) (clock : Float) (b : Bool) → time_over w clock ≡ b → over_after w cutoff clock ≡ by_refusal → ⊥
unfolding over_after
row_not_refused w true clock b e h = omega (arith, h)
row_not_refused w false clock true e h = omega (arith, rw e at h)
row_not_refused w false clock false e h = omega (arith, rw e at h)

followed_refused : (w : RunSettings) (r : RunState) (t : SpmStepAnswer) (b : Bool) → eqb t.refusal 0 ≡ b → (followed w r t).over ≡ by_refusal → (followed w r t).rows ≡ r.rows
unfolding followed
followed_refused w r t true e h = absurd (row_not_refused w t.state.cutoff (r.clock ⊕ w.dt) _ refl (rw e at h))
followed_refused w r t false e h = rw e

pub turned_refused : (w : RunSettings) (r : RunState) → (turned w r).over ≡ by_refusal → (turned w r).rows ≡ r.rows
unfolding turned
turned_refused w r h = followed_refused w r _ _ refl h

pub run_groups : (w : RunSettings) (s : SpmSolver) (room : Room) → run_refusal w s room ≡ 0 → group_count (room.rows / 8) ≤ room.lowest
unfolding run_refusal
run_groups w s room h = room_groups room (passed _ _ (lit< tt) (neither_refused _ _ (neither_refused _ _ h).1).0)
