-- The ranges of what a particle that passes the checks works with: its sheet's numbers, the spacing, the diffusivity from 200 to 400 K; so every accepted call is sound. Assumes nothing.
use Rattle.std.specs.Prelude.{ℕ, ◌-◌, ◌*◌, ◌^◌, ◌≤◌, ◌≡◌, Bool, true, false, cond, T, leb, ltb, Float}
use Rattle.std.proofs.Common.{le_trans, zero-lt-suc, lit≤}
use native.Mathlib.Omega.{arith}
use Rattle.std.specs.Float.Ieee.{le, lt, neg, of_bits}
use Rattle.std.specs.Float.Ieee.Bits.{is_true}
use Rattle.std.specs.Float.Ieee.Fits.{and_l, and_r}
use Rattle.std.specs.Float.Ieee.Positive.{num, den, positive}
use Rattle.fraction.specs.Fraction.{nat, ◌≤F◌}
use Rattle.fraction.proofs.Field.{≈F-sym, ≤F-of-≈F, ≤F-trans, le_of_lt}
use Rattle.binary64.specs.Range.{Within, Sized, most_wider, least_wider}
use Rattle.binary64.proofs.RangeTests.{tested_within, tested_sized, count_within}
use Rattle.binary64.proofs.RangeOps.{mul_between, div_between}
use Rattle.binary64.proofs.Bounds.{within_scaled}
use Rattle.binary64.specs.Value.{val}
use Rattle.binary64.proofs.Value.{lt_val}
use Rattle.binary64.specs.Literals.{«0·0», «200·0», «400·0», «86400·0», «100000·0», «1e13»}
use Rattle.elementary.specs.Exp.{one}
use Rattle.elementary.proofs.ArrheniusRange.{arrhenius_within}
use Rattle.min_max.proofs.ChoiceLaws.{lt_le}
use Rattle.refusal.specs.Numbers.{grid, load, interval, temperature, neither_refused, passed}
use Rattle.refusal.specs.Ranges.{load_fits_of, interval_fits, temperature_fits}
use Rattle.refusal.specs.RangeLaws.{Between, between, row_at}
use Rattle.electrode.specs.Sheet.{chemistry_fits, sheet_rows, sheet_fits, diffusivity_at}
use Rattle.electrode.specs.declared.ElectrodeParams.{ElectrodeParams}
use Rattle.diffusion.specs.Premises.{ParametersInRange, zero_val}
use Rattle.diffusion.specs.SubStep.{SubStepParams}
use Rattle.profile.specs.Places.{profile_fits}
use Rattle.particle.specs.declared.ParticleDiffusion.{ParticleDiffusion}
use Rattle.particle.specs.Checks.{nodes_fit, particle_refusal, nodes_of, fields_of}
use Rattle.particle.specs.Particle.{spacing, sub_step_params_of}
use Rattle.particle.specs.Calls.{step_refusal}

-- ---- the sheet
-- each number of a sheet that fits, between powers of 2
pub record SheetRanges (s : ElectrodeParams) : Type 0 where
  pub radius : Within s.r_particle 1 (2 ^ 9) 1 (2 ^ 27)
  pub reference : Within s.d_s_ref 1 (2 ^ 26) 1 (2 ^ 67)
  pub most : Within s.c_s_max (2 ^ 17) 1 1 1
  pub initial_low : T (le «0·0» s.theta_init)
  pub initial_high : T (le s.theta_init one)
  pub thick : Within s.thickness 1 (2 ^ 6) 1 (2 ^ 24)
  pub solid : Within s.epsilon_s 1 1 1 (2 ^ 7)
  pub plate : Within s.area (2 ^ 14) 1 1 (2 ^ 20)
  pub activation : Sized s.e_a_ds 100000 1
  pub reaction : Within s.k_bv 1 1 1 (2 ^ 54)
  pub reference_temperature : Within s.t_ref 400 1 200 1

pub wider : {x : Float} {A C B E : ℕ} → Within x A C B E → (G H K J : ℕ) → T (ltb 0 H) → T (ltb 0 J) → T (leb (A * H) (G * C)) → T (leb (K * E) (B * J)) → Within x G H K J
wider w G H K J h j l m = (most_wider w.0 G H h l, least_wider w.1 K J j m)

-- whichever of two a test chooses
pub either : (b : Bool) {x y : Float} {A C : ℕ} → Sized x A C → Sized y A C → Sized (cond b x y) A C
either true h k = h
either false h k = k

pub within : {low x high : Float} → Between low x high → T (positive low) → T (positive high) → Within x (num high) (den high) (num low) (den low)
within {low} {x} {high} t p q = tested_within low x high p q t.above t.below

pub sheet_ranges : (s : ElectrodeParams) → T (sheet_fits s) → SheetRanges s
unfolding of_bits
sheet_ranges s t =
    let at = row_at (chemistry_fits s.electrode_type) (sheet_rows s) t in
    record {
      radius = wider (within (at 0) tt tt) 1 (2 ^ 9) 1 (2 ^ 27) tt tt tt tt;
      reference = wider (within (at 1) tt tt) 1 (2 ^ 26) 1 (2 ^ 67) tt tt tt tt;
      most = wider (within (at 2) tt tt) (2 ^ 17) 1 1 1 tt tt tt tt;
      initial_low = (at 3).above;
      initial_high = (at 3).below;
      thick = wider (within (at 4) tt tt) 1 (2 ^ 6) 1 (2 ^ 24) tt tt tt tt;
      solid = wider (within (at 5) tt tt) 1 1 1 (2 ^ 7) tt tt tt tt;
      plate = wider (within (at 6) tt tt) (2 ^ 14) 1 1 (2 ^ 20) tt tt tt tt;
      activation = most_wider (tested_sized «0·0» s.e_a_ds «100000·0» tt tt tt (at 7).above (at 7).below) 100000 1 tt tt;
      reaction = wider (within (at 8) tt tt) 1 1 1 (2 ^ 54) tt tt tt tt;
      reference_temperature = wider (within (at 9) tt tt) 400 1 200 1 tt tt tt tt;
    }

-- ---- the diffusivity, from 200 to 400 K
temperature_range : (t : Float) → T (temperature_fits t) → Within t 400 1 200 1
unfolding of_bits
temperature_range t h = wider (within (between t «200·0» «400·0» h) tt tt) 400 1 200 1 tt tt tt tt

-- from 2 ^ -113 to 2 ^ 19
pub diffusivity_range : (s : ElectrodeParams) (t : Float) → T (sheet_fits s) → T (temperature_fits t) → Within (diffusivity_at s t) (2 ^ 19) 1 1 (2 ^ 113)
unfolding diffusivity_at
diffusivity_range s t h k = let r = sheet_ranges s h in mul_between r.reference (arrhenius_within r.activation r.reference_temperature (temperature_range t k)) (2 ^ 19) 1 1 (2 ^ 113) tt tt tt tt

-- ---- a sub-step
-- what a sub-step works with, in ranges where each of its operations stays finite (`Node-in` of Nodes); the flux may be far beyond the table's 1e13
pub record Ranged (v : SubStepParams) : Type 0 where
  pub n_low : 3 ≤ v.n
  pub n_high : v.n ≤ 64
  pub dr : Within v.dr 1 (2 ^ 10) 1 (2 ^ 33)
  pub d_s : Within v.d_s (2 ^ 19) 1 1 (2 ^ 113)
  pub c_max : Within v.c_max (2 ^ 17) 1 1 1
  pub j_n : Sized v.j_n (2 ^ 100) 1
  pub dt : Sized v.dt (2 ^ 17) 1
  pub dt_low : nat 0 ≤F val v.dt

pub ranged_parameters : {v : SubStepParams} → Ranged v → ParametersInRange v
ranged_parameters r = record {
  n_low = r.n_low;
  n_high = r.n_high;
  dr = (within_scaled r.dr 100 100 tt tt).size;
  d_s = (within_scaled r.d_s 300 300 tt tt).size;
  c_max = (within_scaled r.c_max 100 100 tt tt).size;
  j_fine = r.j_n.fine;
  dt_fine = r.dt.fine;
  dt_low = r.dt_low;
}

-- ---- the particle
module _ (p : ParticleDiffusion) (h : particle_refusal p ≡ 0) where
  pub nodes_passed : T (nodes_fit p.n_nodes)
  unfolding particle_refusal
  nodes_passed = passed (nodes_fit p.n_nodes) grid (zero-lt-suc 0) (neither_refused _ _ h).0

  pub sheet_passed : T (sheet_fits p.params)
  sheet_passed = and_l (sheet_fits p.params) (profile_fits p.c_s p.n_nodes p.params.c_s_max) (fields_of p h)

  pub profile_passed : T (profile_fits p.c_s p.n_nodes p.params.c_s_max)
  profile_passed = and_r (sheet_fits p.params) (profile_fits p.c_s p.n_nodes p.params.c_s_max) (fields_of p h)

  -- from 2 ^ -33 to 2 ^ -10
  pub spacing_range : Within (spacing p.params p.n_nodes) 1 (2 ^ 10) 1 (2 ^ 33)
  unfolding spacing
  spacing_range =
      let n = nodes_of p h in
      let l : 2 ≤ p.n_nodes - 1 = let a = n.0 in omega arith in
      let m : p.n_nodes - 1 ≤ 63 = let a = n.1 in omega arith in
      div_between (sheet_ranges p.params sheet_passed).radius (count_within (p.n_nodes - 1) 63 2 m l (le_trans m (lit≤ tt))) 1 (2 ^ 10) 1 (2 ^ 33) tt tt tt tt tt

  -- a sub-step of the particle is in its ranges where its diffusivity, flux and length are
  pub particle_ranged : {d j dt : Float} → Within d (2 ^ 19) 1 1 (2 ^ 113) → Sized j (2 ^ 100) 1 → Sized dt (2 ^ 17) 1 → nat 0 ≤F val dt → Ranged (sub_step_params_of p d j dt)
  particle_ranged d j t l = record { n_low = (nodes_of p h).0; n_high = (nodes_of p h).1; dr = spacing_range; d_s = d; c_max = (sheet_ranges p.params sheet_passed).most; j_n = j; dt = t; dt_low = l }

-- ---- the calls' own numbers
pub load_range : (j : Float) → T (load_fits_of j «1e13») → Sized j (2 ^ 100) 1
unfolding of_bits neg
load_range j t =
    let hi = «1e13» in
    most_wider (tested_sized (neg hi) j hi tt tt tt (and_l (le (neg hi) j) (le j hi) t) (and_r (le (neg hi) j) (le j hi) t)) (2 ^ 100) 1 tt tt

pub interval_range : (dt : Float) → T (interval_fits dt) → Sized dt (2 ^ 17) 1 × (nat 0 ≤F val dt)
unfolding of_bits
interval_range dt t =
    let hi = «86400·0» in
    let a = and_l (lt «0·0» dt) (le dt hi) t in
    let s = tested_sized «0·0» dt hi tt tt tt (lt_le «0·0» dt (is_true (lt «0·0» dt) a)) (and_r (lt «0·0» dt) (le dt hi) t) in
    (most_wider s (2 ^ 17) 1 tt tt, ≤F-trans (≤F-of-≈F (≈F-sym zero_val)) (le_of_lt (lt_val «0·0» dt tt s.fine a)))

-- so is a step that nothing refuses before it is made
pub step_ranged : (p : ParticleDiffusion) (j dt t : Float) → step_refusal p j dt t ≡ 0 → Ranged (sub_step_params_of p (diffusivity_at p.params t) j dt)
unfolding step_refusal
step_ranged p j dt t h =
    let a = neither_refused _ _ h in
    let b = neither_refused _ _ a.1 in
    let c = neither_refused _ _ b.1 in
    let i = interval_range dt (passed (interval_fits dt) interval (zero-lt-suc 3) c.0) in
    particle_ranged p a.0 (diffusivity_range p.params t (sheet_passed p a.0) (passed (temperature_fits t) temperature (zero-lt-suc 4) c.1))
    (load_range j (passed (load_fits_of j «1e13») load (zero-lt-suc 2) b.0)) i.0 i.1
