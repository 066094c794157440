-- `solver::step_in_place` meets its contract where nothing refuses it. Assumes nothing.
use Rattle.std.proofs.Common.{◌≡◌, ℕ, Bool, true, false, cond, List, refl}
use lib.Ieee.{Float}
use Rattle.refusal.specs.Numbers.{first_refusal, not_finite_of}
use Rattle.solver_step.specs.declared.plan.Plan.{Plan}
use Rattle.solver_step.specs.declared.report.SpmState.{SpmState}
use Rattle.solver_step.specs.declared.SpmParts.{SpmParts}
use Rattle.solver_step.specs.declared.SpmNodes.{SpmNodes}
use Rattle.binary64.specs.Operators.{◌⊘◌}
use Rattle.solver_step.specs.Answers.{SpmReported}
use Rattle.solver_step.specs.Arguments.{argument_refusal}
use Rattle.solver_step.specs.Plans.{plan_with, plan_refusal, sub_steps_of}
use Rattle.solver_step.specs.Moves.{StepInPlace, step_in_place, refused_move, counted, report_on, finite_on, finished_on, followed_on}
use Rattle.solver.specs.declared.SpmSolver.{SpmSolver}
use Rattle.solver.specs.Cell.{cell_refusal}
use Rattle.solver.specs.Step.{input_refusal, current_density, plan_of, advanced, voltage_of, reported, finite_step, refused_step, finished, planned, stepped}
use Rattle.solver.specs.Parts.{cell_of, Agrees, step_by, followed}
use Rattle.solver.proofs.step_in_place.Goals as goal

-- where nothing refuses the cell, the arguments or the plan, the plan is followed
to_end : (s : SpmSolver) (i dt t : Float) → 0 ≡ cell_refusal s → 0 ≡ argument_refusal i dt t → (p : Plan) → p ≡ plan_of s i dt t → 0 ≡ plan_refusal p → stepped s i dt t ≡ followed s p i dt t
unfolding stepped planned input_refusal first_refusal
to_end s i dt t fits given p ep h = rw (← fits, ← given, ← ep, ← h)

-- what a followed plan leaves on lent profiles is what it answers of the cell: s before, z after
module _ (r : SpmReported) (a c : List Float) (s z : SpmSolver) (w : SpmState) (n : ℕ) where
  by_parts : (x : StepInPlace) → step_in_place r a c ≡ x
      → (r.refusal ≡ x.moved.refusal) × ((r.state ≡ x.moved.state) × ((r.sub_steps ≡ x.moved.sub_steps) × ((a ≡ x.neg) × (c ≡ x.pos))))
  by_parts x e = rw (← e) (refl, (refl, (refl, (refl, refl))))

  agrees_by : (b : Bool) → step_in_place r a c ≡ cond b (step_in_place (record { refusal = 0; state = w; sub_steps = n }) z.anode.c_s z.cathode.c_s) (step_in_place (refused_move not_finite_of) s.anode.c_s s.cathode.c_s)
      → Agrees (cond b (step_by 0 w n z) (refused_step not_finite_of s)) r a c
  agrees_by true e = by_parts _ e
  agrees_by false e = by_parts _ e

followed-agrees : (q : SpmParts) (p : Plan) (a c : List Float) (i dt t : Float) (r : SpmReported) (a' c' : List Float)
    → step_in_place r a' c' ≡ followed_on q p a c i dt t → Agrees (followed (cell_of q a c) p i dt t) r a' c'
unfolding followed_on finished_on finite_on report_on finished finite_step reported voltage_of current_density advanced
followed-agrees q p a c i dt t r a' c' e =
    let s = cell_of q a c in
    agrees_by r a' c' s (advanced s p dt) (reported (advanced s p dt) p i t) (sub_steps_of p) (finite_step (advanced s p dt) (reported (advanced s p dt) p i t)) e

-- with the counts that were tested, which are the cell's, a plan is the cell's and the parts are
module _ (q : SpmParts) (n : SpmNodes) (h : (n.neg ≡ q.n_neg) × (n.pos ≡ q.n_pos)) where
  planned-by : (a c : List Float) (i dt t : Float) (p : Plan) → p ≡ plan_with q.neg n.neg q.pos n.pos q.config.faraday (i ⊘ q.neg.area) dt t → p ≡ plan_of (cell_of q a c) i dt t
  unfolding plan_of current_density
  planned-by a c i dt t p e = rw (e, h.0, h.1)

  parts-kept : counted q n ≡ q
  parts-kept = rw (h.0, h.1)

pub returns : goal.returns
returns c =
    let a = c.args in
    rw (to_end (cell_of a.q a.c_neg.now a.c_pos.now) a.current_a a.dt a.temp_k c.in_ok-n.ensures.number c.in_ok-check_arguments.ensures _
    (planned-by a.q c.in_ok-n.n c.in_ok-n.ensures.counts _ _ _ _ _ _ c.plan_for-p.ensures) c.in_ok-check_plan.ensures)
    (followed-agrees a.q _ a.c_neg.now a.c_pos.now a.current_a a.dt a.temp_k _ _ _ (rw (parts-kept a.q c.in_ok-n.n c.in_ok-n.ensures.counts) at c.follow.ensures))
