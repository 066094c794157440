-- The sub-steps of a step that is not refused are stable: each is at most 0.30 of the limit h² / (2·D) long but for roundings, so 6·D·t is at most 0.9·h² but for 60 / 2 ^ 53 of it, and less
-- than h², at both electrodes, in exact fractions, t the binary64 dt ⊘ count. Assumes nothing.
use Rattle.std.specs.Prelude.{◌^◌, ◌≡◌, not, [], ◌∷◌, T, Float}
use Rattle.std.proofs.Math.Path.{refl}
use Rattle.std.proofs.Common.{sym, subst, lit≤}
use Rattle.std.specs.Float.Ieee.{lt, of_bits}
use Rattle.std.specs.Float.Ieee.Scale.{finite}
use Rattle.fraction.specs.Fraction.{Fraction, whole, nat, ◌+F◌, ◌*F◌, ◌/F◌, inv, ◌≈F◌, ◌≤F◌, ◌<F◌}
use Rattle.fraction.proofs.Field.{≈F-refl, le_of_lt}
use Rattle.fraction.proofs.Certificate.{quote}
use Rattle.fraction.proofs.Certificate.{le_by, within_by, up, hi, num, sq, eqn, ◌⊞◌, ◌⊠◌, ◌·◌}
use Rattle.fraction.proofs.Inverse.{mul_inv}
use Rattle.fraction.proofs.Order.{lit≤F, lit≈F}
use Rattle.fraction.proofs.Size.{Size, size_pos, size_nat, size_mul, size_inv, size_wider}
use Rattle.binary64.specs.Operators.{◌⊗◌, ◌⊘◌, count}
use Rattle.binary64.specs.Range.{Within}
use Rattle.binary64.proofs.RangeOps.{literal}
use Rattle.binary64.proofs.Bounds.{Scaled, within_scaled}
use Rattle.binary64.specs.Error.{u, u_nn}
use Rattle.binary64.proofs.Near.{Near, exact, fair, near_own, near_mul, near_div}
use Rattle.binary64.specs.Value.{val}
use Rattle.binary64.specs.Literals.{«0·5», «4096·0»}
use Rattle.min_max.specs.Count.{ceil_of}
use Rattle.particle.specs.Particle.{spacing, stable_step}
use Rattle.solver.specs.declared.SpmSolver.{SpmSolver}
use Rattle.solver_step.specs.declared.plan.Plan.{Plan}
use Rattle.solver_step.specs.Plans.{sub_step_factor, plan_refusal, sub_steps_of}
use Rattle.solver.specs.Step.{input_refusal, plan_of}
use Rattle.solver_laws.specs.Electrodes.{Electrode, particle_at, diffusivity_in, quotient_most, interval_size, diffusivity_in_lem}
use Rattle.solver_laws.specs.DtUse.{used_by, used_by_lem, used_longest, half_range, spaced}
use Rattle.solver_laws.specs.SubStepLength.{part_most}

-- ---- the factor: three times it, and the roundings on the way from h and D to t, make no more than 1
abbrev share : Float → Fraction
share f = nat 3 *F val f +F nat 60 *F u

pub record FactorFits (f : Float) : Type 0 where
  pub range : Within f 1 1 1 4
  most : share f ≤F nat 1

-- the same, for what the laws below cite
pub used_factor : FactorFits sub_step_factor
unfolding of_bits val whole u ◌*F◌ ◌+F◌
used_factor = record { range = literal _ 1 1 1 4 tt tt tt tt tt; most = lit≤F tt }

pub factor_fits : FactorFits sub_step_factor
unfolding of_bits val whole u ◌*F◌ ◌+F◌
factor_fits = record { range = literal _ 1 1 1 4 tt tt tt tt tt; most = lit≤F tt }

-- 0.30 in binary64 is not above 9 / 30
factor_tenths : nat 30 *F val sub_step_factor ≤F nat 9
unfolding of_bits val whole ◌*F◌
factor_tenths = lit≤F tt

half_is : nat 2 *F val «0·5» ≈F nat 1
unfolding of_bits val whole ◌*F◌
half_is = lit≈F refl

-- a number from 1 / 4 to 1, at the scale 1
near_one : {x : Float} → Scaled x 2 0 → Near x (val x) (nat 1) 0 1
near_one {x} h = exact h.fine ≈F-refl (fair (size_nat 1 0 (lit≤ tt) (lit≤ tt)) tt tt) 1
    (within_by (val x ∷ []) 0 (up h.size.high) (le_of_lt (size_pos h.size) ⊞ num 1) (search quote depth 24) tt tt) tt

-- ---- an electrode's longest sub-step
module _ (f : Float) (fits : FactorFits f) (h D : Float) (h-range : Within h 1 (2 ^ 10) 1 (2 ^ 33)) (D-range : Within D (2 ^ 19) 1 1 (2 ^ 113)) where
  abbrev longest : Float
  longest = «0·5» ⊗ h ⊗ h ⊘ D ⊗ f

  abbrev H : Fraction
  H = val h

  abbrev I : Fraction
  I = inv (val D)

  -- h² / D
  abbrev L : Fraction
  L = H *F H *F I

  h_scaled : Scaled h 33 0
  h_scaled = within_scaled h-range 33 0 tt tt

  D-scaled : Scaled D 113 19
  D-scaled = within_scaled D-range 113 19 tt tt

  D-above : nat 0 <F val D
  D-above = size_pos D-scaled.size

  L-size : Size L 1022 1023
  L-size = size_wider 1022 1023 (size_mul (size_mul h_scaled.size h_scaled.size) (size_inv D-scaled.size)) (lit≤ tt) (lit≤ tt)

  L-nn : nat 0 ≤F L
  L-nn = le_of_lt (size_pos L-size)

  -- four roundings
  near_longest : Near longest (val «0·5» *F H *F H /F val D *F val f) (nat 1 *F H *F H /F val D *F nat 1) 8 1
  near_longest =
      let one = size_nat 1 0 (lit≤ tt) (lit≤ tt) in
      let a = size_mul one h_scaled.size in
      let b = size_mul a h_scaled.size in
      let c = size_mul b (size_inv D-scaled.size) in
      let n = near_own h_scaled tt tt in
      let square = near_mul (near_mul (near_one (within_scaled half_range 2 0 tt tt)) n (fair a tt tt) tt) n (fair b tt tt) tt in
      near_mul (near_div square (near_own D-scaled tt tt) (fair c tt tt) tt) (near_one (within_scaled fits.range 2 0 tt tt)) (fair (size_mul c one) tt tt) tt

  -- a part of an interval, by any w that is not longer
  module _ (dt w : Float) (fine : T (finite dt)) (above : nat 0 <F val w) (below : val w ≤F val dt) (few : T (not (lt «4096·0» (dt ⊘ w)))) (short : val w ≤F val longest) where
    abbrev part : Float
    part = dt ⊘ count (ceil_of (dt ⊘ w))

    twice : nat 2 *F val w ≤F L
    twice = le_by (val w ∷ val longest ∷ H ∷ I ∷ val «0·5» ∷ val f ∷ u ∷ []) 0
        (num 2 ⊠ up short ⊞ num 2 ⊠ hi near_longest.error ⊞ L-nn ⊠ up fits.most ⊞ L-nn ⊠ (num 2 ⊠ le_of_lt (size_pos (within_scaled fits.range 2 0 tt tt).size) ⊞ num 44 ⊠ u_nn)
        ⊞ eqn ((val f *F L) · half_is)) (search quote depth 24) tt

    part_short : nat 6 *F val part ≤F share f *F L
    part_short = le_by (val part ∷ val w ∷ val longest ∷ H ∷ I ∷ val «0·5» ∷ val f ∷ u ∷ []) 0
        (num 6 ⊠ up (part_most dt w fine above below few L L-size twice) ⊞ num 6 ⊠ up short ⊞ num 6 ⊠ hi near_longest.error ⊞ eqn ((nat 3 *F val f *F L) · half_is)) (search quote depth 24) tt

    part_stable : nat 6 *F val D *F val part ≤F share f *F (H *F H)
    part_stable = le_by (val D ∷ I ∷ H ∷ val part ∷ val f ∷ u ∷ []) 0 (le_of_lt D-above ⊠ up part_short ⊞ eqn ((share f *F (H *F H)) · mul_inv D-above)) (search quote depth 24) tt

-- ---- a step that neither its input nor its plan refuses
module _ (s : SpmSolver) (i dt t : Float) (h : input_refusal s i dt t ≡ 0) (g : plan_refusal (plan_of s i dt t) ≡ 0) where
  abbrev plan : Plan
  plan = plan_of s i dt t

  abbrev spacing_at : Electrode → Float
  spacing_at e = spacing (particle_at e s).params (particle_at e s).n_nodes

  abbrev used : Float
  used = used_by sub_step_factor s i dt t

  quotient_is : plan.q ≡ dt ⊘ used
  unfolding plan_of
  quotient_is = refl

  few : T (not (lt «4096·0» (dt ⊘ used)))
  few = subst (λ (q : Float). T (not (lt «4096·0» q))) quotient_is (quotient_most plan g)

  by_used : (e : Electrode) → nat 6 *F val (diffusivity_in e plan) *F val (dt ⊘ count (ceil_of (dt ⊘ used))) ≤F share sub_step_factor *F (val (spacing_at e) *F val (spacing_at e))
  unfolding stable_step
  by_used e =
      let d = used_by_lem s i dt t h sub_step_factor used_factor.range in
      part_stable sub_step_factor used_factor (spacing_at e) (diffusivity_in e plan) (spaced s i dt t h e) (diffusivity_in_lem s i dt t h e)
      dt used (interval_size s i dt t h).0.fine d.above d.short few (used_longest d e)

  -- ---- EACH SUB-STEP AT EACH ELECTRODE, h its spacing, D its diffusivity
  module _ (e : Electrode) where
    abbrev square : Fraction
    square = val (spacing_at e) *F val (spacing_at e)

    abbrev six_dt : Fraction
    six_dt = nat 6 *F val (diffusivity_in e plan) *F val (dt ⊘ count (sub_steps_of plan))

    by_share : six_dt ≤F share sub_step_factor *F square
    by_share = subst (λ (q : Float). nat 6 *F val (diffusivity_in e plan) *F val (dt ⊘ count (ceil_of q)) ≤F share sub_step_factor *F square) (sym quotient_is) (by_used e)

    -- 6·D·t ≤ 0.9·h² but for roundings, 60 / 2 ^ 53 of h²
    pub sub_step_short : nat 10 *F six_dt ≤F (nat 9 +F nat 600 *F u) *F square
    sub_step_short = le_by (six_dt ∷ val (spacing_at e) ∷ val sub_step_factor ∷ u ∷ []) 0 (num 10 ⊠ up by_share ⊞ up factor_tenths ⊠ sq (val (spacing_at e))) (search quote depth 24) tt

    -- 6·D·t ≤ h²
    pub sub_step_stable : six_dt ≤F square
    sub_step_stable = le_by (six_dt ∷ val (spacing_at e) ∷ val sub_step_factor ∷ u ∷ []) 0 (up by_share ⊞ up used_factor.most ⊠ sq (val (spacing_at e))) (search quote depth 24) tt
