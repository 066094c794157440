-- A step whose sub-steps have at most 0.45 of the stability limit, as it was before they had at most 0.30: where the plans have one refusal and one count of sub-steps, the step is that step,
-- its report, cell and refusal alike; and a plan that is not refused was not refused, with as many sub-steps or fewer. Assumes nothing.
use Rattle.std.specs.Prelude.{◌≤◌, ◌≡◌, refl, Bool, true, false, not, ◌&&◌, cond, [], ◌∷◌, T, eqb, Float}
use Rattle.std.proofs.Common.{sym, subst, arith}
use Rattle.std.specs.Float.Ieee.{le, lt, of_bits}
use Rattle.std.specs.Float.Ieee.Bits.{is_true}
use Rattle.std.specs.Float.Ieee.Positive.{num, den, den_pos, positive, positive-finite as finite-of-positive, through, le→cross, le_trans_positive}
use Rattle.std.specs.Float.Ieee.Scale.{finite}
use Rattle.fraction.specs.Fraction.{◌≤F◌}
use Rattle.fraction.proofs.Field.{≤F-trans, le_of_lt}
use Rattle.fraction.proofs.Certificate.{quote}
use Rattle.fraction.proofs.Certificate.{le_by, up, ◌⊠◌}
use Rattle.fraction.proofs.Order.{lit≤F}
use Rattle.fraction.proofs.Size.{size_pos}
use Rattle.binary64.specs.Operators.{◌⊘◌}
use Rattle.binary64.specs.Range.{Within}
use Rattle.binary64.proofs.RangeOps.{literal}
use Rattle.binary64.proofs.Bounds.{within_scaled}
use Rattle.binary64.specs.Order.{lt→not}
use Rattle.binary64.proofs.OrderLaws.{rounds_le, positive-finite, div_ge}
use Rattle.binary64.proofs.Rounds.{mul_rounds}
use Rattle.binary64.specs.Value.{val}
use Rattle.binary64.proofs.Value.{le_val, val_le}
use Rattle.binary64.specs.Literals.{«1e-20», «1e-8», «0·45», «4096·0»}
use Rattle.min_max.specs.Count.{ceil_of}
use Rattle.min_max.proofs.CountLaws.{count_reaches, count_least}
use Rattle.refusal.specs.Numbers.{first_refusal, refusal_unless, diffusivity, sub_steps_value, neither_refused}
use Rattle.refusal.specs.Ranges.{in_range}
use Rattle.electrode.specs.Sheet.{diffusivity_at}
use Rattle.particle.specs.Particle.{stable_step}
use Rattle.solver_step.specs.declared.plan.Plan.{Plan}
use Rattle.solver_step.specs.Plans.{sub_step_factor, quotient_by, plan_refusal, sub_steps_of}
use Rattle.solver.specs.declared.SpmSolver.{SpmSolver}
use Rattle.solver.specs.Answers.{SpmStepAnswer}
use Rattle.solver.specs.Step.{input_refusal, plan_of, advanced, voltage_of, reported, refused_step, finished, planned, stepped}
use Rattle.solver_laws.specs.Electrodes.{Electrode, particle_at, diffusivity_in, count_below, quotient_most, interval_size}
use Rattle.solver_laws.specs.DtUse.{longest_at, used_by, DtUse, used_by_lem, used_longest, used_greatest, stable_range, longest_above}
use Rattle.solver_laws.specs.SubStepLength.{limits, quotient_positive, quotient_high}
use Rattle.solver_laws.specs.Stability.{used_factor}

abbrev pub earlier_plan : SpmSolver → Float → Float → Float → Plan
earlier_plan s i dt t =
    let p = plan_of s i dt t in
    let a = s.anode in
    let c = s.cathode in
    record {
      d_neg = p.d_neg;
      d_pos = p.d_pos;
      j_neg = p.j_neg;
      j_pos = p.j_pos;
      q = quotient_by «0·45» a.params a.n_nodes c.params c.n_nodes dt (diffusivity_at a.params t) (diffusivity_at c.params t);
    }

abbrev pub stepped_earlier : SpmSolver → Float → Float → Float → SpmStepAnswer
stepped_earlier s i dt t = cond (eqb (input_refusal s i dt t) 0) (planned s (earlier_plan s i dt t) i dt t) (refused_step (input_refusal s i dt t) s)

pub step_kept : (s : SpmSolver) (i dt t : Float) → plan_refusal (earlier_plan s i dt t) ≡ plan_refusal (plan_of s i dt t) → sub_steps_of (earlier_plan s i dt t) ≡ sub_steps_of (plan_of s i dt t)
    → stepped s i dt t ≡ stepped_earlier s i dt t
unfolding stepped planned finished advanced reported voltage_of
step_kept s i dt t r n = rw (r, n) refl

-- ---- what the smaller factor does to a plan
earlier_range : Within «0·45» 1 1 1 4
unfolding of_bits
earlier_range = literal «0·45» 1 1 1 4 tt tt tt tt tt

smaller : val sub_step_factor ≤F val «0·45»
unfolding of_bits val
smaller = lit≤F tt

module _ (s : SpmSolver) (i dt t : Float) (h : input_refusal s i dt t ≡ 0) (g : plan_refusal (plan_of s i dt t) ≡ 0) where
  abbrev used : Float
  used = used_by sub_step_factor s i dt t

  abbrev earlier : Float
  earlier = used_by «0·45» s i dt t

  used_is : DtUse sub_step_factor s i dt t
  used_is = used_by_lem s i dt t h sub_step_factor used_factor.range

  earlier_is : DtUse «0·45» s i dt t
  earlier_is = used_by_lem s i dt t h «0·45» earlier_range

  longest_grows : (e : Electrode) → val (longest_at sub_step_factor s i dt t e) ≤F val (longest_at «0·45» s i dt t e)
  longest_grows e =
      let x = stable_step (particle_at e s).params (particle_at e s).n_nodes (diffusivity_in e (plan_of s i dt t)) in
      let w = stable_range s i dt t h e in
      le_val (longest_at sub_step_factor s i dt t e) (longest_at «0·45» s i dt t e)
      (positive-finite _ (longest_above s i dt t h sub_step_factor used_factor.range e)) (positive-finite _ (longest_above s i dt t h «0·45» earlier_range e))
      (rounds_le (mul_rounds x sub_step_factor w.0.fine used_factor.range.0.fine) (mul_rounds x «0·45» w.0.fine earlier_range.0.fine)
      (le_by (val x ∷ val sub_step_factor ∷ val «0·45» ∷ []) 0 (le_of_lt (size_pos (within_scaled w 86 92 tt tt).size) ⊠ up smaller) (search quote depth 24) tt))

  used_grows : val used ≤F val earlier
  used_grows = used_greatest «0·45» s i dt t (val used) used_is.short (λ e. ≤F-trans (used_longest used_is e) (longest_grows e))

  -- the quotients, now and earlier
  abbrev q : Float
  q = dt ⊘ used

  abbrev q' : Float
  q' = dt ⊘ earlier

  fine : T (finite dt)
  fine = (interval_size s i dt t h).0.fine

  q_high : T (le q «4096·0»)
  unfolding plan_of
  q_high = quotient_high dt used fine used_is.above used_is.short (quotient_most (plan_of s i dt t) g)

  q_positive : T (positive q)
  q_positive = quotient_positive dt used fine used_is.above used_is.short «4096·0» limits.most_positive q_high

  falls : T (le q' q)
  falls =
      let f = positive-finite earlier earlier_is.above in
      div_ge dt used earlier fine (interval_size s i dt t h).1 used_is.above f (val_le used earlier (positive-finite used used_is.above) f used_grows)

  q'_positive : T (positive q')
  q'_positive = quotient_positive dt earlier fine earlier_is.above earlier_is.short q q_positive falls

  few : T (not (lt «4096·0» q'))
  few = go (lt «4096·0» q') refl
    where
      high : T (le q' «4096·0»)
      high = le_trans_positive q' q «4096·0» q'_positive q_positive limits.most_positive falls q_high

      go : (b : Bool) → lt «4096·0» q' ≡ b → T (not b)
      go true e = absurd (lt→not «4096·0» q' limits.most_fine (finite-of-positive q' q'_positive) (subst T (sym e) tt) high)
      go false e = tt

  diffusivities_pass : refusal_unless (in_range (plan_of s i dt t).d_neg «1e-20» «1e-8» && in_range (plan_of s i dt t).d_pos «1e-20» «1e-8») diffusivity ≡ 0
  unfolding plan_refusal
  diffusivities_pass = (neither_refused _ _ g).0

  count_passes : refusal_unless (not (lt «4096·0» q')) sub_steps_value ≡ 0
  unfolding refusal_unless
  count_passes = rw (is_true (not (lt «4096·0» q')) few)

  -- A PLAN THAT IS NOT REFUSED was not refused
  pub earlier_accepted : plan_refusal (earlier_plan s i dt t) ≡ 0
  unfolding plan_refusal plan_of first_refusal
  earlier_accepted = rw (diffusivities_pass, count_passes)

  -- AND HAS AS MANY SUB-STEPS OR MORE
  pub count_grows : sub_steps_of (earlier_plan s i dt t) ≤ sub_steps_of (plan_of s i dt t)
  unfolding plan_of
  count_grows =
      let n = ceil_of q in
      let m = count_below q (quotient_most (plan_of s i dt t) g) in
      let r = count_reaches q q_positive (omega (arith, m)) in
      let c = through (num q') (num q) n (den q') (den q) 1 (den_pos q) (le→cross q' q q'_positive q_positive falls) (omega (arith, r)) in
      count_least q' q'_positive n (omega (arith, c))
