-- The numbers that a particle that passes the checks answers with are finite: 8 never comes from dt_stable, theta_surface, c_avg or theta_avg. Assumes nothing.
use Prim.Native.Nat.{ℕ, zero, suc, ◌+◌, ◌-◌, ◌*◌, ◌%◌, ◌^◌, ◌≤◌, zero-le}
use Rattle.std.specs.Prelude.{◌≡◌, refl, Bool, true, false, cond, ◌||◌, [], ◌∷◌, T, eqb, Float}
use Rattle.std.proofs.Common.{le_trans, le_refl, zero-lt-suc, lit≤}
use native.Mathlib.Omega.{arith}
use Rattle.std.proofs.Math.Dec.{eqb-suc-zero}
use Rattle.std.specs.Float.Ieee.{lt, of_bits}
use Rattle.std.specs.Float.Ieee.Bits.{is_true}
use Rattle.std.specs.Float.Ieee.Scale.{finite}
use Rattle.fraction.specs.Fraction.{whole, nat, pow2, neg_f}
use Rattle.fraction.proofs.Certificate.{quote}
use Rattle.fraction.proofs.Certificate.{le_by, eqn, ◌·◌}
use Rattle.fraction.proofs.Order.{pow2_add, pow2_mono}
use Rattle.fraction.proofs.Within.{within_add, within_weaken}
use Rattle.binary64.specs.Operators.{◌⊕◌, f64}
use Rattle.binary64.specs.Range.{Most, Within, Sized, sized, most_wider}
use Rattle.binary64.proofs.RangeTests.{literal, count_within}
use Rattle.binary64.proofs.RangeOps.{mul_between, mul_most, div_most}
use Rattle.binary64.proofs.Rounds.{add_rounds}
use Rattle.binary64.proofs.Bounds.{Bounded, bounded_pow, bounded_most, most_bounded}
use Rattle.binary64.specs.Value.{ratio_le}
use Rattle.binary64.specs.Literals.{«0·0», «1e-30», «0·5», «1·0», «2·0», «3·0», «4·0»}
use Rattle.elementary.specs.Exp.{one}
use Rattle.refusal.specs.Numbers.{first_refusal, refusal_unless, temperature, neither_refused, passed}
use Rattle.refusal.specs.Ranges.{temperature_fits}
use Rattle.refusal.specs.Answers.{outcome, finite_outcome}
use Rattle.electrode.specs.Sheet.{diffusivity_at}
use Rattle.profile.specs.Weights.{inner_weight, weight, share, shares, content}
use Rattle.particle.specs.declared.ParticleDiffusion.{ParticleDiffusion}
use Rattle.particle.specs.Checks.{particle_refusal, nodes_of}
use Rattle.particle.specs.Particle.{spacing, place_of, surface_theta, stable_step, average, average_theta}
use Rattle.particle.specs.Calls.{dt_stable, theta_surface, theta_avg_of, c_avg_of}
use Rattle.particle_laws.specs.Ranges.{either, sheet_ranges, sheet_passed, spacing_range, diffusivity_range}
use Rattle.particle_laws.specs.Checked.{place_sized}

-- where a value that is not refused is finite, 8 is not met
pub finite_outcome_lem : (n : ℕ) (x : Float) → (n ≡ 0 → T (finite x)) → finite_outcome n x ≡ outcome n x
unfolding first_refusal refusal_unless
finite_outcome_lem zero x h = rw (is_true (finite x) (h refl))
finite_outcome_lem (suc n) x h = rw (eqb-suc-zero n)

-- ---- weights
weight_range : (n i : ℕ) → Within (weight n i) 4 1 1 1
unfolding weight inner_weight of_bits
weight_range n i = go (eqb i 0 || eqb i (n - 1)) (eqb (i % 2) 0)
  where
    go : (a b : Bool) → Within (cond a «1·0» (f64 (cond b 0x4000_0000_0000_0000 0x4010_0000_0000_0000))) 4 1 1 1
    go true b = literal one 4 1 1 1 tt tt tt tt tt
    go false true = literal «2·0» 4 1 1 1 tt tt tt tt tt
    go false false = literal «4·0» 4 1 1 1 tt tt tt tt tt

-- ---- sums: one power of 2 more for each term
bounded_add : {x y : Float} (f : ℕ) → Bounded x (pow2 f) → Bounded y (pow2 f) → f + 1 ≤ 1023 → Bounded (x ⊕ y) (pow2 (f + 1))
bounded_add {x} {y} f h k l =
    bounded_pow (f + 1) (add_rounds x y h.fine k.fine) (within_weaken (within_add h.size k.size) (le_by (pow2 f ∷ pow2 (f + 1) ∷ []) 0 (eqn (neg_f (nat 1) · pow2_add f 1)) (search quote depth 24) tt)) l

most_pow : {x : Float} {s : Bool} (f : ℕ) → Most x s (2 ^ f) 1 → Bounded x (pow2 f)
unfolding whole
most_pow f h = let b = most_bounded h in record { fine = b.fine; size = within_weaken b.size (ratio_le (le_refl (2 ^ f * 1))) }

pow_sized : {x : Float} (f : ℕ) → Bounded x (pow2 f) → Sized x (2 ^ f) 1
unfolding whole
pow_sized f h = bounded_most {P = zero-lt-suc 0} h

module _ (p : ParticleDiffusion) (h : particle_refusal p ≡ 0) where
  -- a share of the volume is at most 2 ^ -6
  share_most : (i : ℕ) → i ≤ 63 → Most (share p.n_nodes (spacing p.params p.n_nodes) i) false 1 (2 ^ 6)
  share_most i l =
      let r = mul_most (count_within i 63 0 l zero-le (le_trans l (lit≤ tt))).0 (spacing_range p h).0 1 (2 ^ 4) tt tt in
      mul_most (mul_most (weight_range p.n_nodes i).0 r 1 (2 ^ 2) tt tt) r 1 (2 ^ 6) tt tt

  content_bounded : (k : ℕ) → k ≤ p.n_nodes → Bounded (content p.n_nodes (spacing p.params p.n_nodes) (place_of p) k) (pow2 (11 + k))
  unfolding content of_bits
  content_bounded zero l = most_pow 11 (literal «0·0» (2 ^ 11) 1 0 1 tt tt tt tt tt).0
  content_bounded (suc k) l =
      let n = (nodes_of p h).1 in
      let b = content_bounded k (omega arith) in
      let s = most_pow 11 (mul_most (share_most k (omega arith)) (place_sized p h k l) (2 ^ 11) 1 tt tt) in
      let e : 11 + k + 1 ≡ 11 + suc k = omega arith in
      rw e at (bounded_add (11 + k) b (record { fine = s.fine; size = within_weaken s.size (pow2_mono 11 (11 + k) (omega arith)) }) (omega arith))

  pub average_sized : Sized (average p) (2 ^ 149) 1
  unfolding average of_bits
  average_sized =
      let n = nodes_of p h in
      let f = (nodes_of p h).1 in
      let b = content_bounded p.n_nodes (le_refl p.n_nodes) in
      let c : Sized (content p.n_nodes (spacing p.params p.n_nodes) (place_of p) p.n_nodes) (2 ^ 75) 1 = pow_sized 75 (record { fine = b.fine; size = within_weaken b.size (pow2_mono (11 + p.n_nodes) 75 (omega arith)) }) in
      let r = (sheet_ranges p.params (sheet_passed p h)).radius in
      let cube = mul_between (mul_between r r 1 (2 ^ 18) 1 (2 ^ 54) tt tt tt tt) r 1 (2 ^ 27) 1 (2 ^ 81) tt tt tt tt in
      let three = literal «3·0» 3 1 3 1 tt tt tt tt tt in
      either (lt (shares p.n_nodes (spacing p.params p.n_nodes) p.n_nodes) «1e-30»)
      (most_wider (place_sized p h 0 (le_trans (lit≤ tt) n.0)) (2 ^ 149) 1 tt tt)
      (sized (div_most (mul_most (div_most (mul_most three.0 c (2 ^ 77) 1 tt tt) cube (2 ^ 158) 1 tt tt tt) (spacing_range p h).0 (2 ^ 148) 1 tt tt) three (2 ^ 149) 1 tt tt tt))

  pub average_theta_fine : T (finite (average_theta p))
  unfolding average_theta
  average_theta_fine = (div_most average_sized (sheet_ranges p.params (sheet_passed p h)).most (2 ^ 149) 1 tt tt tt).fine

  pub surface_theta_fine : T (finite (surface_theta p))
  unfolding surface_theta
  surface_theta_fine =
      let n = (nodes_of p h).0 in
      (div_most (place_sized p h (p.n_nodes - 1) (omega arith)) (sheet_ranges p.params (sheet_passed p h)).most (2 ^ 17) 1 tt tt tt).fine

  pub stable_step_fine : (t : Float) → T (temperature_fits t) → T (finite (stable_step p.params p.n_nodes (diffusivity_at p.params t)))
  unfolding stable_step of_bits
  stable_step_fine t k =
      let half = literal «0·5» 1 2 1 2 tt tt tt tt tt in
      let d = (spacing_range p h).0 in
      (div_most (mul_most (mul_most half.0 d 1 (2 ^ 11) tt tt) d 1 (2 ^ 21) tt tt) (diffusivity_range p.params t (sheet_passed p h) k) (2 ^ 92) 1 tt tt tt).fine

-- ---- what the calls answer: the table's number, or the value
pub dt_stable_is : (p : ParticleDiffusion) (t : Float) → dt_stable p t ≡ outcome (first_refusal (particle_refusal p) (refusal_unless (temperature_fits t) temperature)) (stable_step p.params p.n_nodes (diffusivity_at p.params t))
unfolding dt_stable
dt_stable_is p t =
    finite_outcome_lem (first_refusal (particle_refusal p) (refusal_unless (temperature_fits t) temperature)) (stable_step p.params p.n_nodes (diffusivity_at p.params t))
    (λ e. let a = neither_refused _ _ e in stable_step_fine p a.0 t (passed (temperature_fits t) temperature (zero-lt-suc 4) a.1))

pub theta_surface_is : (p : ParticleDiffusion) → theta_surface p ≡ outcome (particle_refusal p) (surface_theta p)
unfolding theta_surface
theta_surface_is p = finite_outcome_lem (particle_refusal p) (surface_theta p) (surface_theta_fine p)

pub c_avg_is : (p : ParticleDiffusion) → c_avg_of p ≡ outcome (particle_refusal p) (average p)
unfolding c_avg_of
c_avg_is p = finite_outcome_lem (particle_refusal p) (average p) (λ e. (average_sized p e).fine)

pub theta_avg_is : (p : ParticleDiffusion) → theta_avg_of p ≡ outcome (particle_refusal p) (average_theta p)
unfolding theta_avg_of
theta_avg_is p = finite_outcome_lem (particle_refusal p) (average_theta p) (average_theta_fine p)
