-- A step on the parts of a cell, whose arrays are lent, and the cell that its answer makes. Assumes nothing.
use Rattle.std.specs.Prelude.{◌≡◌, ℕ, Bool, true, false, cond, List, ◌==◌, ◌≢◌, Float}
use Rattle.std.proofs.Math.Path.{refl}
use Rattle.std.proofs.Common.{sym, ◌∙◌, arith}
use Rattle.std.proofs.lemmas.Bool.{eqb-false}
use Rattle.refusal.specs.Numbers.{not_finite_of}
use Rattle.dfn_parameters.specs.declared.DfnParams.{DfnParams}
use Rattle.dfn_parameters.specs.declared.DfnConfig.{DfnConfig}
use Rattle.dfn.specs.Checks.{step_refusal}
use Rattle.dfn.specs.Step.{Moved, moved_by, report_of, cell_with, all_numbers, refused_with, answered, followed, advanced, stepped}
use Rattle.dfn.specs.declared.DfnSolver.{DfnSolver}
use Rattle.dfn.specs.declared.DfnStep.{DfnStep}
use Rattle.dfn.specs.Answers.{DfnReported, DfnStepAnswer}

-- a cell by its parts; the last four are what a step only overwrites
abbrev pub cell_of : DfnParams → DfnConfig → Float → List Float → List Float → List Float → Float → Float → Float → Float → DfnSolver
cell_of p g t neg pos c_e_of v i theta_neg theta_pos = record {
  params = p;
  config = g;
  c_s_neg = neg;
  c_s_pos = pos;
  c_e = c_e_of;
  time_s = t;
  voltage = v;
  current = i;
  theta_neg_surf = theta_neg;
  theta_pos_surf = theta_pos;
}

-- an answer by its parts
abbrev pub answer_of : ℕ → DfnStep → DfnSolver → DfnStepAnswer
answer_of k r d = record { refusal = k; report = r; cell = d }

-- r and the three arrays are the number, the report and the arrays of the answer s
abbrev pub Agrees : DfnStepAnswer → DfnReported → List Float → List Float → List Float → Type 0
Agrees s r neg pos c_e_of =
    (r.refusal ≡ s.refusal)
    × ((r.report ≡ s.report) × ((neg ≡ s.cell.c_s_neg) × ((pos ≡ s.cell.c_s_pos) × (c_e_of ≡ s.cell.c_e))))

-- r and the last three arrays are what a step of these parts answers, whatever the step before reported
abbrev pub StepOf : DfnParams → DfnConfig → Float → List Float → List Float → List Float → Float → Float → DfnReported → List Float → List Float
    → List Float → Type 0
StepOf p g t neg pos c_e_of current dt r neg' pos' c_e' =
    (v i theta_neg theta_pos : Float) → Agrees (stepped (cell_of p g t neg pos c_e_of v i theta_neg theta_pos) current dt) r neg' pos' c_e'

-- the cell of the old parameters and grid, the arrays and the report
abbrev pub cell_by : DfnSolver → List Float → List Float → List Float → DfnStep → DfnSolver
cell_by d neg pos c_e_of r =
    cell_of d.params d.config r.time_s neg pos c_e_of r.voltage r.current r.theta_neg r.theta_pos

-- a refused answer holds the old cell, any other the cell of its own arrays and report
record Ends (d : DfnSolver) (s : DfnStepAnswer) : Type 0 where
  kept : (s.refusal ≢ 0) → s.cell ≡ d
  made : s.refusal ≡ 0 → s.cell ≡ cell_by d s.cell.c_s_neg s.cell.c_s_pos s.cell.c_e s.report

refused_ends : (d : DfnSolver) (k : ℕ) → (k ≢ 0) → Ends d (refused_with k d)
refused_ends d k h = record { kept = λ e. refl; made = λ z. absurd (h z) }

answered_ends : (d : DfnSolver) (m : Moved) (r : DfnStep) (b : Bool)
    → Ends d (cond b (answer_of 0 r (cell_with d m r)) (refused_with not_finite_of d))
unfolding cell_with
answered_ends d m r true = record { kept = λ h. absurd (h refl); made = λ e. refl }
answered_ends d m r false = refused_ends d not_finite_of (λ e. omega arith)

same : {k n : ℕ} {a b : DfnStep} {c d : DfnSolver} → k ≡ n → a ≡ b → c ≡ d → answer_of k a c ≡ answer_of n b d
same e f g = rw (e, f, g)

module _ (d : DfnSolver) (current dt : Float) where
  stepped_by : (b : Bool) → (step_refusal d current dt == 0) ≡ b
      → Ends d (cond b (advanced d (moved_by d current dt) current dt) (refused_with (step_refusal d current dt) d))
  unfolding advanced followed answered
  stepped_by true e =
      let m = moved_by d current dt in
      let r = report_of d m current dt in
      answered_ends d m r (all_numbers (cell_with d m r) r)
  stepped_by false e = refused_ends d (step_refusal d current dt) (eqb-false _ _ e)

  stepped_ends : Ends d (stepped d current dt)
  unfolding stepped
  stepped_ends = stepped_by (step_refusal d current dt == 0) refl

  -- the whole answer, by what a step of the parts answers
  module _ (r : DfnReported) (neg pos c_e_of : List Float) (h : Agrees (stepped d current dt) r neg pos c_e_of) where
    whole : (cell : DfnSolver) → cell ≡ (stepped d current dt).cell → answer_of r.refusal r.report cell ≡ stepped d current dt
    whole cell e = same h.0 h.1.0 e

    pub answer_kept : (r.refusal ≢ 0) → answer_of r.refusal r.report d ≡ stepped d current dt
    answer_kept z = whole d (sym (stepped_ends.kept (λ k. z (h.0 ∙ k))))

    pub answer_made : r.refusal ≡ 0 → answer_of r.refusal r.report (cell_by d neg pos c_e_of r.report) ≡ stepped d current dt
    answer_made z = whole (cell_by d neg pos c_e_of r.report)
        (rw (h.1.0, h.1.1.0, h.1.1.1.0, h.1.1.1.1) (sym (stepped_ends.made (sym h.0 ∙ z))))
