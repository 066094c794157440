-- What a step answers, by the number that it meets and its parts; first for a cell, then for its parts. Assumes nothing.
use Rattle.std.proofs.Common.{◌≡◌, ℕ, zero, suc, Bool, true, false, ◌&&◌, List, refl, sym, ◌∙◌, arith, Ok, Err}
use Rattle.std.proofs.Math.Dec.{eqb-suc-zero}
use lib.Ieee as F
use lib.Ieee.{Float}
use Rattle.binary64.specs.Operators.{◌⊕◌}
use Rattle.refusal.specs.Numbers.{first_refusal, refusal_unless, not_finite_of}
use Rattle.refusal.specs.Ranges.{finite}
use Rattle.refusal.specs.Refusals.{number_of}
use Rattle.refusal.specs.declared.Refusal.{Refusal}
use Rattle.dfn_parameters.specs.Sides.{anode_of, cathode_of}
use Rattle.dfn_parameters.specs.declared.DfnParams.{DfnParams}
use Rattle.dfn_parameters.specs.declared.DfnConfig.{DfnConfig}
use Rattle.dfn_electrolyte.specs.Electrolyte.{electrolyte_after}
use Rattle.arrays.specs.Places.{all_finite}
use Rattle.dfn_solid.specs.Answers.{SolidUpdate}
use Rattle.dfn_solid.specs.Solid.{solid_update}
use Rattle.dfn.proofs.Refusals.{first_met, second_met}
use Rattle.dfn.specs.Answers.{DfnStepAnswer, reported_by}
use Rattle.dfn.specs.Checks.{used_neg, used_pos, used_electrolyte, parts_refusal, cell_refusal, load_refusal, step_refusal}
use Rattle.dfn.specs.Parts.{cell_of, answer_of, Agrees, StepOf}
use Rattle.dfn.specs.Step.{particle_params, Moved, moved_by, report_by, report_of, cell_with, rest_finite, all_numbers, no_report, refused_with, answered, followed, advanced, stepped}
use Rattle.dfn.specs.declared.DfnSolver.{DfnSolver}
use Rattle.dfn.specs.declared.DfnStep.{DfnStep}

-- ---- the tests of an outcome
and-true : (a : Bool) → (a && true) ≡ a
and-true true = refl
and-true false = refl

and-false : (a : Bool) → (a && false) ≡ false
and-false true = refl
and-false false = refl

-- the stoichiometries with their electrodes, or among the report's numbers
in_order : (neg theta_neg pos theta_pos c_e_of v i t d : Bool)
    → (neg && theta_neg && (pos && theta_pos) && (c_e_of && v && i && t && d)) ≡ (neg && pos && c_e_of && v && i && t && theta_neg && theta_pos && d)
in_order false m b q s v i t d = refl
in_order true true true true s v i t d = rw (and-true (s && v && i && t), and-true (s && v && i && t)) refl
in_order true true true false s v i t d = rw (and-false (s && v && i && t && true)) refl
in_order true true false q s v i t d = refl
in_order true false true q s v i t d = rw (and-false (s && v && i && t)) refl
in_order true false false q s v i t d = refl

finite_if_none : (ok : Bool) → 0 ≡ refusal_unless ok not_finite_of → ok ≡ true
unfolding refusal_unless
finite_if_none true h = refl
finite_if_none false h = absurd (omega (arith, h))

not_finite_if_refused : (ok : Bool) (k : ℕ) → suc k ≡ refusal_unless ok not_finite_of → (ok ≡ false) × (suc k ≡ not_finite_of)
unfolding refusal_unless
not_finite_if_refused true k h = absurd (omega (arith, h))
not_finite_if_refused false k h = (refl, h)

-- ---- a cell's step
module _ (d : DfnSolver) (current dt : Float) where
  abbrev moved : Moved
  moved = moved_by d current dt

  abbrev report : DfnStep
  report = report_of d moved current dt

  abbrev anode_ok : Bool
  anode_ok = all_finite moved.anode.c (used_neg d.config) && finite moved.anode.theta

  abbrev cathode_ok : Bool
  cathode_ok = all_finite moved.cathode.c (used_pos d.config) && finite moved.cathode.theta

  abbrev rest_ok : Bool
  rest_ok = rest_finite d.config moved.c_e report

  all_is : anode_ok && cathode_ok && rest_ok ≡ all_numbers (cell_with d moved report) report
  unfolding all_numbers cell_with report_of
  all_is =
      in_order (all_finite moved.anode.c (used_neg d.config)) (finite moved.anode.theta) (all_finite moved.cathode.c (used_pos d.config)) (finite moved.cathode.theta)
      (all_finite moved.c_e (used_electrolyte d.config)) (finite report.voltage) (finite report.current) (finite report.time_s) (finite report.delta_c_e_max)

  refused : (k : ℕ) → suc k ≡ step_refusal d current dt → refused_with (suc k) d ≡ stepped d current dt
  unfolding stepped
  refused k e = rw (← e, eqb-suc-zero)

  not_finite : 0 ≡ step_refusal d current dt → anode_ok && cathode_ok && rest_ok ≡ false → refused_with not_finite_of d ≡ stepped d current dt
  unfolding stepped advanced followed answered
  not_finite z h = rw (← z, ← all_is, h)

  made : 0 ≡ step_refusal d current dt → anode_ok && cathode_ok && rest_ok ≡ true → answer_of 0 report (cell_with d moved report) ≡ stepped d current dt
  unfolding stepped advanced followed answered
  made z h = rw (← z, ← all_is, h)

agrees_by : (a s : DfnStepAnswer) → a ≡ s
    → Agrees s (record { refusal = a.refusal; report = a.report }) a.cell.c_s_neg a.cell.c_s_pos a.cell.c_e
agrees_by a s e = rw e (refl, (refl, (refl, (refl, refl))))

-- ---- a step of parts, whatever the step before reported
module _ (p : DfnParams) (g : DfnConfig) (t : Float) (neg pos c_e_of : List Float) (current dt : Float) where
  abbrev cell : Float → Float → Float → Float → DfnSolver
  cell = cell_of p g t neg pos c_e_of

  abbrev pub anode_update : SolidUpdate
  anode_update = solid_update (particle_params p (anode_of p) g.n_r (F.neg current) dt) neg g.n_x_neg

  abbrev pub cathode_update : SolidUpdate
  cathode_update = solid_update (particle_params p (cathode_of p) g.n_r current dt) pos g.n_x_pos

  abbrev pub Refused : Refusal → Type 0
  Refused e = StepOf p g t neg pos c_e_of current dt (reported_by no_report (Err e)) neg pos c_e_of

  first_is : (v i x y : Float) → first_refusal (parts_refusal p g neg pos c_e_of t) (load_refusal current dt) ≡ step_refusal (cell v i x y) current dt
  unfolding step_refusal cell_refusal
  first_is v i x y = refl

  pub cell_refused : (e : Refusal) → number_of e ≡ parts_refusal p g neg pos c_e_of t → Refused e
  cell_refused e h v i x y = agrees_by _ _ (refused (cell v i x y) current dt _ (first_met _ _ _ h ∙ first_is v i x y))

  module _ (z : 0 ≡ parts_refusal p g neg pos c_e_of t) where
    pub load_refused : (e : Refusal) → number_of e ≡ load_refusal current dt → Refused e
    load_refused e h v i x y = agrees_by _ _ (refused (cell v i x y) current dt _ (second_met _ _ _ z h ∙ first_is v i x y))

    module _ (l : 0 ≡ load_refusal current dt) where
      none : (v i x y : Float) → 0 ≡ step_refusal (cell v i x y) current dt
      none v i x y = second_met _ _ _ z l ∙ first_is v i x y

      eight : (e : Refusal) → number_of e ≡ not_finite_of
          → ((v i x y : Float) → anode_ok (cell v i x y) current dt && cathode_ok (cell v i x y) current dt && rest_ok (cell v i x y) current dt ≡ false) → Refused e
      eight e h f v i x y = rw h (agrees_by _ _ (not_finite (cell v i x y) current dt (none v i x y) (f v i x y)))

      anode_number : (v i x y : Float) → anode_update.refusal ≡ refusal_unless (anode_ok (cell v i x y) current dt) not_finite_of
      unfolding solid_update moved_by
      anode_number v i x y = refl

      cathode_number : (v i x y : Float) → cathode_update.refusal ≡ refusal_unless (cathode_ok (cell v i x y) current dt) not_finite_of
      unfolding solid_update moved_by
      cathode_number v i x y = refl

      pub anode_refused : (e : Refusal) → number_of e ≡ anode_update.refusal → Refused e
      anode_refused e h =
          eight e (not_finite_if_refused _ _ (h ∙ anode_number t t t t)).1
          (λ v i x y. rw (not_finite_if_refused _ _ (h ∙ anode_number v i x y)).0)

      module _ (a : 0 ≡ anode_update.refusal) where
        anode_finite : (v i x y : Float) → anode_ok (cell v i x y) current dt ≡ true
        anode_finite v i x y = finite_if_none _ (a ∙ anode_number v i x y)

        pub cathode_refused : (e : Refusal) → number_of e ≡ cathode_update.refusal → Refused e
        cathode_refused e h =
            eight e (not_finite_if_refused _ _ (h ∙ cathode_number t t t t)).1
            (λ v i x y. rw (anode_finite v i x y, (not_finite_if_refused _ _ (h ∙ cathode_number v i x y)).0))

        module _ (b : 0 ≡ cathode_update.refusal) (c_e' : List Float) (r : DfnStep)
            (es : c_e' ≡ electrolyte_after p g.n_x_neg g.n_x_pos c_e_of current dt)
            (er : r ≡ report_by p g c_e_of c_e' anode_update.theta cathode_update.theta (t ⊕ dt) current) where
          cathode_finite : (v i x y : Float) → cathode_ok (cell v i x y) current dt ≡ true
          cathode_finite v i x y = finite_if_none _ (b ∙ cathode_number v i x y)

          rest_is : (v i x y : Float) → rest_finite g c_e' r ≡ rest_ok (cell v i x y) current dt
          unfolding solid_update moved_by report_of
          rest_is v i x y = rw (er, es)

          pub rest_refused : (e : Refusal) → number_of e ≡ refusal_unless (rest_finite g c_e' r) not_finite_of → Refused e
          rest_refused e h =
              let f = not_finite_if_refused _ _ h in
              eight e f.1 (λ v i x y. rw (anode_finite v i x y, cathode_finite v i x y, ← rest_is v i x y, f.0))

          pub made_step : 0 ≡ refusal_unless (rest_finite g c_e' r) not_finite_of
              → StepOf p g t neg pos c_e_of current dt (reported_by no_report (Ok r)) anode_update.c_s cathode_update.c_s c_e'
          unfolding solid_update moved_by report_of cell_with
          made_step h v i x y =
              rw (er, es)
              (agrees_by _ _ (made (cell v i x y) current dt (none v i x y) (rw (anode_finite v i x y, cathode_finite v i x y, ← rest_is v i x y, finite_if_none _ h))))

      by_anode : (e : Refusal) (k : ℕ) → anode_update.refusal ≡ k → number_of e ≡ first_refusal k cathode_update.refusal → Refused e
      unfolding first_refusal
      by_anode e zero q h = cathode_refused (sym q) e h
      by_anode e (suc k) q h = anode_refused e ((rw eqb-suc-zero at h) ∙ sym q)

      pub solids_refused : (e : Refusal) → number_of e ≡ first_refusal anode_update.refusal cathode_update.refusal → Refused e
      solids_refused e h = by_anode e anode_update.refusal refl h
