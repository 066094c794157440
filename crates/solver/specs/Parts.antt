-- A step on the parts of a cell, whose profiles are lent, and the answer that it makes. Assumes nothing.
use Rattle.std.specs.Prelude.{ℕ, ◌≡◌, Bool, cond, List, eqb, Float}
use Rattle.std.proofs.Math.Path.{refl}
use Rattle.std.proofs.Common.{sym, ◌∙◌, arith}
use Rattle.std.proofs.Math.Bool.{true, false}
use Rattle.std.proofs.lemmas.Bool.{eqb-false}
use Rattle.binary64.specs.Operators.{◌⊕◌}
use Rattle.refusal.specs.Numbers.{not_finite_of}
use Rattle.particle.specs.Particle.{particle_of, with_profile}
use Rattle.solver_step.specs.declared.plan.Plan.{Plan}
use Rattle.solver_step.specs.Plans.{plan_refusal, sub_steps_of}
use Rattle.solver_step.specs.declared.report.SpmState.{SpmState}
use Rattle.solver_step.specs.declared.SpmParts.{SpmParts}
use Rattle.solver_step.specs.Answers.{SpmReported}
use Rattle.solver.specs.declared.SpmSolver.{SpmSolver}
use Rattle.solver.specs.Answers.{SpmStepAnswer}
use Rattle.solver.specs.Step.{input_refusal, plan_of, advanced, reported, finite_step, refused_step, finished, planned, stepped}

-- a cell by its parts
abbrev pub cell_of : SpmParts → List Float → List Float → SpmSolver
cell_of q a c = record {
  config = q.config;
  anode = particle_of q.neg q.n_neg a;
  cathode = particle_of q.pos q.n_pos c;
  time_s = q.time_s;
}

abbrev pub parts_of : SpmSolver → SpmParts
parts_of s = record {
  config = s.config;
  neg = s.anode.params;
  n_neg = s.anode.n_nodes;
  pos = s.cathode.params;
  n_pos = s.cathode.n_nodes;
  time_s = s.time_s;
}

-- r and the two profiles are the number, the report, the count of sub-steps and the profiles of the answer s
abbrev pub Agrees : SpmStepAnswer → SpmReported → List Float → List Float → Type 0
Agrees s r a c =
    (r.refusal ≡ s.refusal)
    × ((r.state ≡ s.state) × ((r.sub_steps ≡ s.sub_steps) × ((a ≡ s.solver.anode.c_s) × (c ≡ s.solver.cathode.c_s))))

-- they are what a step of these parts answers
abbrev pub StepOf : SpmParts → List Float → List Float → Float → Float → Float → SpmReported → List Float → List Float → Type 0
StepOf q a c i dt t r a' c' = Agrees (stepped (cell_of q a c) i dt t) r a' c'

-- what it answers once a plan stands
abbrev pub followed : SpmSolver → Plan → Float → Float → Float → SpmStepAnswer
followed s p i dt t = finished s p (advanced s p dt) (reported (advanced s p dt) p i t)

-- an answer by its parts
abbrev pub step_by : ℕ → SpmState → ℕ → SpmSolver → SpmStepAnswer
step_by k r n s = record { refusal = k; state = r; sub_steps = n; solver = s }

-- the old cell with new profiles, its clock raised
abbrev pub cell_with : SpmSolver → Float → List Float → List Float → SpmSolver
cell_with s dt a c = record { config = s.config; anode = with_profile s.anode a; cathode = with_profile s.cathode c; time_s = s.time_s ⊕ dt }

-- a refused answer holds the old cell, any other the old cell with its own profiles
record Ends (s : SpmSolver) (dt : Float) (r : SpmStepAnswer) : Type 0 where
  kept : (r.refusal ≡ 0 → ⊥) → r ≡ refused_step r.refusal s
  made : r.refusal ≡ 0 → r.solver ≡ cell_with s dt r.solver.anode.c_s r.solver.cathode.c_s

module _ (s : SpmSolver) (dt : Float) where
  refused_ends : (k : ℕ) → (k ≡ 0 → ⊥) → Ends s dt (refused_step k s)
  refused_ends k h = record { kept = λ e. refl; made = λ z. absurd (h z) }

  finished_by : (p : Plan) (r : SpmState) (b : Bool) → Ends s dt (cond b (step_by 0 r (sub_steps_of p) (advanced s p dt)) (refused_step not_finite_of s))
  unfolding advanced
  finished_by p r true = record { kept = λ h. absurd (h refl); made = λ e. refl }
  finished_by p r false = refused_ends not_finite_of (λ e. omega arith)

  planned_by : (p : Plan) (i t : Float) (b : Bool) → eqb (plan_refusal p) 0 ≡ b → Ends s dt (cond b (followed s p i dt t) (refused_step (plan_refusal p) s))
  unfolding finished
  planned_by p i t true e = finished_by p (reported (advanced s p dt) p i t) (finite_step (advanced s p dt) (reported (advanced s p dt) p i t))
  planned_by p i t false e = refused_ends (plan_refusal p) (eqb-false _ _ e)

  stepped_by : (i t : Float) (b : Bool) → eqb (input_refusal s i dt t) 0 ≡ b → Ends s dt (cond b (planned s (plan_of s i dt t) i dt t) (refused_step (input_refusal s i dt t) s))
  unfolding planned
  stepped_by i t true e = planned_by (plan_of s i dt t) i t (eqb (plan_refusal (plan_of s i dt t)) 0) refl
  stepped_by i t false e = refused_ends (input_refusal s i dt t) (eqb-false _ _ e)

  stepped_ends : (i t : Float) → Ends s dt (stepped s i dt t)
  unfolding stepped
  stepped_ends i t = stepped_by i t (eqb (input_refusal s i dt t) 0) refl

same : {k n l m : ℕ} {a b : SpmState} {c d : SpmSolver} → k ≡ n → a ≡ b → l ≡ m → c ≡ d → step_by k a l c ≡ step_by n b m d
same e f g h = rw (e, f, g, h)

-- the whole answer, by what a step of the parts answers
module _ (s : SpmSolver) (i dt t : Float) (r : SpmReported) (a c : List Float) (h : Agrees (stepped s i dt t) r a c) where
  pub answer_kept : (r.refusal ≡ 0 → ⊥) → refused_step r.refusal s ≡ stepped s i dt t
  answer_kept z = rw h.0 (sym ((stepped_ends s dt i t).kept (λ k. z (h.0 ∙ k))))

  pub cell_made : r.refusal ≡ 0 → cell_with s dt a c ≡ (stepped s i dt t).solver
  cell_made z = rw (h.1.1.1.0, h.1.1.1.1) (sym ((stepped_ends s dt i t).made (sym h.0 ∙ z)))

  pub answer_made : r.refusal ≡ 0 → step_by 0 r.state r.sub_steps (cell_with s dt a c) ≡ stepped s i dt t
  answer_made z = same (sym z ∙ h.0) h.1.0 h.1.1.0 (cell_made z)
