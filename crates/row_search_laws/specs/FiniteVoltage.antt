-- An accepted step of either cell reports a finite voltage. Assumes nothing.
use Rattle.std.specs.Prelude.{◌≡◌, refl, Bool, true, false, ◌&&◌, T, eqb, Float}
use Rattle.std.proofs.Common.{arith}
use Rattle.std.specs.Float.Ieee.Fits.{and_l, and_r}
use Rattle.std.proofs.lemmas.Bool.{eqb-false}
use Rattle.refusal.specs.Ranges.{finite}
use Rattle.arrays.specs.Places.{all_finite}
use Rattle.profile.specs.Places.{finite_profile}
use Rattle.solver_step.specs.declared.report.SpmState.{SpmState}
use Rattle.solver_step.specs.Moves.{finite_on}
use Rattle.solver.specs.declared.SpmSolver.{SpmSolver}
use Rattle.solver.specs.Answers.{SpmStepAnswer}
use Rattle.solver.specs.Step as Spm
use Rattle.solver_laws.specs.Closure.{next, report, Leads, leads}
use Rattle.dfn.specs.declared.DfnSolver.{DfnSolver}
use Rattle.dfn.specs.declared.DfnStep.{DfnStep}
use Rattle.dfn.specs.Checks.{used_neg, used_pos, used_electrolyte, step_refusal}
use Rattle.dfn.specs.Step as Dfn

-- ---- the single-particle cell
reported : (s : SpmSolver) (r : SpmState) → T (Spm.finite_step s r) → T (finite r.voltage)
unfolding Spm.finite_step finite_on
reported s r h =
    let b0 : Bool = finite_profile s.anode.c_s && finite_profile s.cathode.c_s in
    let b1 : Bool = b0 && finite r.voltage in
    let b2 : Bool = b1 && finite r.theta_neg in
    let b3 : Bool = b2 && finite r.theta_pos in
    let b4 : Bool = b3 && finite r.theta_neg_avg in
    let b5 : Bool = b4 && finite r.theta_pos_avg in
    and_r b0 (finite r.voltage)
    (and_l b1 (finite r.theta_neg) (and_l b2 (finite r.theta_pos) (and_l b3 (finite r.theta_neg_avg) (and_l b4 (finite r.theta_pos_avg) (and_l b5 (finite r.time_s) h)))))

pub cell_voltage : (s : SpmSolver) (i dt t : Float) → (Spm.stepped s i dt t).refusal ≡ 0 → T (finite (Spm.stepped s i dt t).state.voltage)
cell_voltage s i dt t = go (Spm.stepped s i dt t) (leads s i dt t)
  where
    go : (a : SpmStepAnswer) → Leads s i dt t a → a.refusal ≡ 0 → T (finite a.state.voltage)
    go a (Leads.refused k) z = absurd (omega (arith, z))
    go a (Leads.moved h g f) z = reported (next s i dt t) (report s i dt t) f

-- ---- the Doyle-Fuller-Newman cell
numbered : (d : DfnSolver) (r : DfnStep) → T (Dfn.all_numbers d r) → T (finite r.voltage)
unfolding Dfn.all_numbers
numbered d r h =
    let b0 : Bool = all_finite d.c_s_neg (used_neg d.config) && all_finite d.c_s_pos (used_pos d.config) && all_finite d.c_e (used_electrolyte d.config) in
    let b1 : Bool = b0 && finite r.voltage in
    let b2 : Bool = b1 && finite r.current in
    let b3 : Bool = b2 && finite r.time_s in
    let b4 : Bool = b3 && finite r.theta_neg in
    let b5 : Bool = b4 && finite r.theta_pos in
    and_r b0 (finite r.voltage)
    (and_l b1 (finite r.current) (and_l b2 (finite r.time_s) (and_l b3 (finite r.theta_neg) (and_l b4 (finite r.theta_pos) (and_l b5 (finite r.delta_c_e_max) h)))))

answered_voltage : (old new : DfnSolver) (r : DfnStep) (b : Bool) → Dfn.all_numbers new r ≡ b → (Dfn.answered old new r).refusal ≡ 0 → T (finite (Dfn.answered old new r).report.voltage)
unfolding Dfn.answered
answered_voltage old new r true e h = rw e (numbered new r (rw e tt))
answered_voltage old new r false e h = absurd (omega (arith, rw e at h))

stepped_voltage : (d : DfnSolver) (i dt : Float) (b : Bool) → eqb (step_refusal d i dt) 0 ≡ b → (Dfn.stepped d i dt).refusal ≡ 0 → T (finite (Dfn.stepped d i dt).report.voltage)
unfolding Dfn.stepped Dfn.advanced Dfn.followed
stepped_voltage d i dt true e h = rw e (answered_voltage _ _ _ _ refl (rw e at h))
stepped_voltage d i dt false e h = absurd (eqb-false _ _ e (rw e at h))

pub dfn_voltage_lem : (d : DfnSolver) (i dt : Float) → (Dfn.stepped d i dt).refusal ≡ 0 → T (finite (Dfn.stepped d i dt).report.voltage)
dfn_voltage_lem d i dt h = stepped_voltage d i dt _ refl h
