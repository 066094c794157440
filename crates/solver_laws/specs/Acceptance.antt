-- A step that neither its input nor its plan refuses is accepted, whatever the profiles, where its clock stays finite: the overpotentials and the voltage are finite.
-- Assumes nothing.
use Rattle.std.specs.Prelude.{◌^◌, ◌≡◌, refl, ◌&&◌, [], ◌∷◌, T, Float}
use Rattle.std.proofs.Common.{lit≤}
use Rattle.std.specs.Float.Ieee.{binary64, le, lt, neg, fits, round, size, of_bits}
use Rattle.std.specs.Float.Ieee.Bits.{of_bits-fits}
use Rattle.std.specs.Float.Ieee.Fits.{and_i, and_l, and_r, mul-fits}
use Rattle.std.specs.Float.Ieee.Scale.{finite}
use Rattle.fraction.specs.Fraction.{whole, nat, ◌*F◌, ◌≤F◌, ◌within◌}
use Rattle.fraction.proofs.Field.{≤F-trans, le_of_lt}
use Rattle.fraction.proofs.Order.{lit≤F}
use Rattle.fraction.proofs.Size.{size_pos, size_wider}
use Rattle.fraction.proofs.Certificate.{quote}
use Rattle.fraction.proofs.Certificate.{le_by, within_by, up, hi, num, ◌⊞◌, ◌⊠◌}
use Rattle.binary64.specs.Operators.{◌⊕◌, ◌⊖◌, ◌⊗◌, f64}
use Rattle.binary64.specs.Error.{u}
use Rattle.binary64.proofs.Error.{rounding_error}
use Rattle.binary64.specs.Range.{Within, Sized, sized, most_wider, neg_most}
use Rattle.binary64.proofs.RangeTests.{literal, tested_within, tested_sized, most_le, within_ge}
use Rattle.binary64.proofs.RangeOps.{mul_between, mul_most, div_most, add_most, sub_most}
use Rattle.binary64.proofs.Bounds.{within_scaled}
use Rattle.binary64.proofs.OrderLaws.{rounds_le}
use Rattle.binary64.proofs.Rounds.{representable, mul_rounds, sub_rounds}
use Rattle.binary64.specs.Value.{val}
use Rattle.binary64.proofs.Value.{le_val}
use Rattle.binary64.specs.Literals.{«0·0», «1e-30», «0·00390625», «0·01», «0·015625», «0·125», «0·99», «2·0», «200·0», «400·0», «1000·0», «262144·0», «8·388608e6»}
use Rattle.square_root.specs.Root.{sqrt_of, rounded, whole_root, root_below}
use Rattle.square_root.proofs.Range.{sqrt_within}
use Rattle.min_max.specs.MinMax.{clamp_of}
use Rattle.min_max.proofs.ChoiceLaws.{Clamped, clamp_in}
use Rattle.elementary.specs.Exp.{one}
use Rattle.elementary.proofs.AsinhRange.{asinh_finite}
use Rattle.refusal.specs.Ranges.{temperature_fits}
use Rattle.profile.specs.Places.{finite_profile}
use Rattle.particle.specs.declared.ParticleDiffusion.{ParticleDiffusion}
use Rattle.particle.specs.Checks.{particle_refusal}
use Rattle.particle.specs.Particle.{surface_theta, surface_potential, average_theta}
use Rattle.particle_laws.specs.Ranges.{wider, either, sheet_ranges, sheet_passed}
use Rattle.particle_laws.specs.Nodes.{number}
use Rattle.particle_laws.specs.Finite.{average_theta_fine, surface_theta_fine}
use Rattle.particle_laws.specs.Potential.{open_circuit_sized}
use Rattle.particle_laws.specs.Closure as ParticleClosure
use Rattle.kinetics.specs.declared.SpmConfig.{SpmConfig}
use Rattle.kinetics.specs.Kinetics.{config_fits, exchange, overpotential}
use Rattle.solver.specs.declared.SpmSolver.{SpmSolver}
use Rattle.solver_step.specs.declared.plan.Plan.{Plan}
use Rattle.solver_step.specs.Plans.{plan_refusal}
use Rattle.solver_step.specs.Moves.{finite_on}
use Rattle.solver_step.specs.Report.{surface_state}
use Rattle.solver.specs.Step.{input_refusal, current_density, plan_of, advanced, voltage_of, reported, finite_step, stepped}
use Rattle.solver_laws.specs.Electrodes.{Electrode, particle_at, config_ranges, config_passed, cell_passed, current_fits_lem, temperature_fits_lem, fluxes_range}
use Rattle.solver_laws.specs.Closure.{next, both_pass, accepted_where}

-- ---- the exchange of a particle that passes: from 2 ^ -57 to 2 ^ 23
-- 0.01 and 0.99
abbrev low : Float
low = «0·01»

abbrev high : Float
high = «0·99»

-- 2 ^ -8
abbrev least : Float
least = «0·00390625»

high_most : nat 128 *F val high ≤F nat 127
unfolding of_bits val whole ◌*F◌
high_most = lit≤F tt

least_most : nat 256 *F val least ≤F nat 1
unfolding of_bits val whole ◌*F◌
least_most = lit≤F tt

u_most : nat 256 *F u ≤F nat 1
unfolding u whole ◌*F◌
u_most = lit≤F tt

one_least : nat 1 ≤F val one
unfolding of_bits val whole
one_least = lit≤F tt

record Ends : Type 0 where
  low_fine : T (finite low)
  high_fine : T (finite high)
  order : T (le low high)
  one_fine : T (finite one)
  least_fine : T (finite least)

ends : Ends
unfolding of_bits le
ends = record { low_fine = tt; high_fine = tt; order = tt; one_fine = tt; least_fine = tt }

-- 2 ^ -6 and 2 ^ 46
root_ends : (sqrt_of «0·015625» ≡ «0·125») × (sqrt_of (f64 0x42d0_0000_0000_0000) ≡ «8·388608e6»)
unfolding sqrt_of rounded whole_root root_below round size of_bits
root_ends = (refl, refl)

root_within : (z : Float) → T (fits binary64 z) → Within z (2 ^ 46) 1 1 (2 ^ 6) → Within (sqrt_of z) (2 ^ 23) 1 1 (2 ^ 3)
unfolding of_bits
root_within z f w =
    let bottom = «0·015625» in
    let top = f64 0x42d0_0000_0000_0000 in
    sqrt_within bottom top «0·125» «8·388608e6» (of_bits-fits binary64 0x3f90_0000_0000_0000) (of_bits-fits binary64 0x42d0_0000_0000_0000)
    tt tt tt tt root_ends.0 root_ends.1 z f (within_ge w bottom tt tt tt) (most_le w.0 top tt tt)

module _ (p : ParticleDiffusion) (h : particle_refusal p ≡ 0) where
  abbrev M : Float
  M = p.params.c_s_max

  abbrev x : Float
  x = clamp_of (surface_theta p) low high

  -- the surface's concentration, by a stoichiometry from 0.01 to 0.99
  abbrev c : Float
  c = x ⊗ M

  most_range : Within M (2 ^ 17) 1 1 1
  most_range = (sheet_ranges p.params (sheet_passed p h)).most

  theta_in : Clamped low x high
  theta_in = clamp_in (surface_theta p) low high (number (surface_theta p) (surface_theta_fine p h)) (number low ends.low_fine) (number high ends.high_fine) ends.order

  theta_range : Within x 1 1 1 (2 ^ 7)
  unfolding of_bits
  theta_range = wider (tested_within low x high tt tt theta_in.low theta_in.high) 1 1 1 (2 ^ 7) tt tt tt tt

  surface_range : Within c (2 ^ 17) 1 1 (2 ^ 7)
  surface_range = mul_between theta_range most_range (2 ^ 17) 1 1 (2 ^ 7) tt tt tt tt

  -- M - c is at least 2 ^ -8
  gap_least : T (le least (M ⊖ c))
  unfolding of_bits
  gap_least =
      let f = theta_range.0.fine in
      let g = most_range.0.fine in
      let m = le_of_lt (size_pos (within_scaled most_range 0 17 tt tt).size) in
      let n = le_of_lt (size_pos (within_scaled theta_range 7 0 tt tt).size) in
      let a = le_val x high f ends.high_fine theta_in.high in
      let o = ≤F-trans one_least (le_val one M ends.one_fine g (within_ge most_range one tt tt tt)) in
      let w : val x *F val M within val M =
      within_by (val x ∷ val M ∷ val high ∷ []) 127 (num 128 ⊠ (up a ⊠ m) ⊞ up high_most ⊠ m ⊞ m) (num 128 ⊠ (n ⊠ m) ⊞ num 128 ⊠ m) (search quote depth 24) tt tt in
      let e = (rounding_error (mul_rounds x M f g) w (size_wider 1022 1023 (within_scaled most_range 0 17 tt tt).size (lit≤ tt) (lit≤ tt))).near in
      rounds_le (representable least ends.least_fine (of_bits-fits binary64 0x3f70_0000_0000_0000)) (sub_rounds M c g surface_range.0.fine)
      (le_by (val x ∷ val M ∷ val c ∷ u ∷ val least ∷ val high ∷ []) 255
      (num 256 ⊠ (up a ⊠ m) ⊞ num 2 ⊠ (up high_most ⊠ m) ⊞ num 256 ⊠ hi e ⊞ up u_most ⊠ m ⊞ up o ⊞ up least_most) (search quote depth 24) tt)

  gap_range : Within (M ⊖ c) (2 ^ 18) 1 1 (2 ^ 8)
  unfolding of_bits
  gap_range =
      let most = «262144·0» in
      wider (tested_within least (M ⊖ c) most tt tt gap_least (most_le (sub_most most_range.0 surface_range.0 (2 ^ 18) 1 tt tt) most tt tt)) (2 ^ 18) 1 1 (2 ^ 8) tt tt tt tt

  exchange_range : Within (exchange p) (2 ^ 23) 1 1 (2 ^ 57)
  unfolding exchange of_bits
  exchange_range =
      let thousand = literal «1000·0» (2 ^ 10) 1 (2 ^ 9) 1 tt tt tt tt tt in
      let z = mul_between (mul_between surface_range gap_range (2 ^ 35) 1 1 (2 ^ 15) tt tt tt tt) thousand (2 ^ 46) 1 1 (2 ^ 6) tt tt tt tt in
      let root = root_within (c ⊗ (M ⊖ c) ⊗ «1000·0») (mul-fits binary64 (c ⊗ (M ⊖ c)) «1000·0») z in
      mul_between (sheet_ranges p.params (sheet_passed p h)).reaction root (2 ^ 23) 1 1 (2 ^ 57) tt tt tt tt

  potential_sized : Sized (surface_potential p) (2 ^ 150) 1
  unfolding surface_potential
  potential_sized = open_circuit_sized p.params (surface_theta p) (number (surface_theta p) (surface_theta_fine p h))

  -- ---- the overpotential
  overpotential_sized : (g : SpmConfig) (j t : Float) → T (config_fits g) → Sized j (2 ^ 100) 1 → T (temperature_fits t) → Sized (overpotential g j p t) (2 ^ 10) 1
  unfolding overpotential of_bits
  overpotential_sized g j t k m f =
      let r = config_ranges g k in
      let two = literal «2·0» 2 1 2 1 tt tt tt tt tt in
      let cool = «200·0» in
      let hot = «400·0» in
      let warm = tested_sized cool t hot tt tt tt (and_l (le cool t) (le t hot) f) (and_r (le cool t) (le t hot) f) in
      let ratio = most_wider (sized (div_most m (mul_between two exchange_range (2 ^ 24) 1 1 (2 ^ 56) tt tt tt tt) (2 ^ 156) 1 tt tt tt)) (2 ^ 499) 1 tt tt in
      let scale = div_most (mul_most (mul_most two.0 r.gas.0 18 1 tt tt) warm (2 ^ 13) 1 tt tt) r.faraday 1 1 tt tt tt in
      either (lt (exchange p) «1e-30») (literal «0·0» (2 ^ 10) 1 0 1 tt tt tt tt tt).0 (sized (mul_most scale (asinh_finite ratio) (2 ^ 10) 1 tt tt))

-- ---- the voltage
-- what the electrodes give, before the drop in the electrolyte
abbrev pub electrode_voltage : SpmSolver → Plan → Float → Float
electrode_voltage s p t =
    let a = surface_state s.config s.anode p.j_neg t in
    let c = surface_state s.config s.cathode p.j_pos t in
    (c.potential ⊕ neg c.overpotential) ⊖ (a.potential ⊕ neg a.overpotential)

-- I / area * R
abbrev pub ohmic_drop : SpmSolver → Float → Float
ohmic_drop s i = current_density s i ⊗ s.config.r_electrolyte_ohm_m2

pub voltage_is : (s : SpmSolver) (p : Plan) (i t : Float) → voltage_of s p i t ≡ electrode_voltage s p t ⊖ ohmic_drop s i
unfolding voltage_of
voltage_is s p i t = refl

module _ (s : SpmSolver) (h : (e : Electrode) → particle_refusal (particle_at e s) ≡ 0) (g : T (config_fits s.config)) where
  pub electrodes_sized : (p : Plan) (t : Float) → Sized p.j_neg (2 ^ 100) 1 → Sized p.j_pos (2 ^ 100) 1 → T (temperature_fits t) → Sized (electrode_voltage s p t) (2 ^ 152) 1
  electrodes_sized p t m n f =
      let a = potential_sized s.anode (h Electrode.anode) in
      let b = potential_sized s.cathode (h Electrode.cathode) in
      let x = sized (neg_most (overpotential_sized s.anode (h Electrode.anode) s.config p.j_neg t g m f)) in
      let y = sized (neg_most (overpotential_sized s.cathode (h Electrode.cathode) s.config p.j_pos t g n f)) in
      sub_most (add_most b y (2 ^ 151) 1 tt tt) (add_most a x (2 ^ 151) 1 tt tt) (2 ^ 152) 1 tt tt

  pub drop_sized : (i : Float) → Sized i (2 ^ 20) 1 → Sized (ohmic_drop s i) (2 ^ 40) 1
  unfolding current_density
  drop_sized i k =
      let density = div_most k (sheet_ranges s.anode.params (sheet_passed s.anode (h Electrode.anode))).plate (2 ^ 40) 1 tt tt tt in
      sized (mul_most density (config_ranges s.config g).resistance (2 ^ 40) 1 tt tt)

  voltage_fine : (p : Plan) (i t : Float) → Sized p.j_neg (2 ^ 100) 1 → Sized p.j_pos (2 ^ 100) 1 → Sized i (2 ^ 20) 1 → T (temperature_fits t) → T (finite (voltage_of s p i t))
  voltage_fine p i t m n k f = rw (voltage_is s p i t) (sub_most (electrodes_sized p t m n f) (drop_sized i k) (2 ^ 153) 1 tt tt).fine

module _ (s : SpmSolver) (h : (e : Electrode) → particle_refusal (particle_at e s) ≡ 0) where
  all_fine : (p : Plan) (i t : Float) → T (finite (voltage_of s p i t)) → T (finite s.time_s) → T (finite_step s (reported s p i t))
  unfolding finite_step finite_on reported
  all_fine p i t v k =
      let a = finite_profile s.anode.c_s in
      let b = finite_profile s.cathode.c_s in
      let c = finite (voltage_of s p i t) in
      let d = finite (surface_theta s.anode) in
      let e = finite (surface_theta s.cathode) in
      let f = finite (average_theta s.anode) in
      let g = finite (average_theta s.cathode) in
      and_i (a && b && c && d && e && f && g) (finite s.time_s)
      (and_i (a && b && c && d && e && f) g
      (and_i (a && b && c && d && e) f
      (and_i (a && b && c && d) e
      (and_i (a && b && c) d
      (and_i (a && b) c
      (and_i a b (ParticleClosure.places_finite s.anode (h Electrode.anode)) (ParticleClosure.places_finite s.cathode (h Electrode.cathode))) v)
      (surface_theta_fine s.anode (h Electrode.anode))) (surface_theta_fine s.cathode (h Electrode.cathode)))
      (average_theta_fine s.anode (h Electrode.anode))) (average_theta_fine s.cathode (h Electrode.cathode))) k

-- ---- the step
module _ (s : SpmSolver) (i dt t : Float) (h : input_refusal s i dt t ≡ 0) (g : plan_refusal (plan_of s i dt t) ≡ 0) where
  pub next_electrode : (e : Electrode) → particle_refusal (particle_at e (next s i dt t)) ≡ 0
  unfolding advanced
  next_electrode Electrode.anode = (both_pass s i dt t h g).0
  next_electrode Electrode.cathode = (both_pass s i dt t h g).1

  pub next_config : T (config_fits (next s i dt t).config)
  unfolding advanced
  next_config = config_passed s (cell_passed s i dt t h)

  next_clock : T (finite (s.time_s ⊕ dt)) → T (finite (next s i dt t).time_s)
  unfolding advanced
  next_clock k = k

  -- A STEP THAT NEITHER ITS INPUT NOR ITS PLAN REFUSES is accepted where the clock stays finite
  pub step_accepted : T (finite (s.time_s ⊕ dt)) → (stepped s i dt t).refusal ≡ 0
  step_accepted k =
      let p = cell_passed s i dt t h in
      let m = current_fits_lem s i dt t h in
      let flux = fluxes_range s p i dt t m in
      accepted_where s i dt t h g
      (all_fine (next s i dt t) next_electrode (plan_of s i dt t) i t
      (voltage_fine (next s i dt t) next_electrode next_config (plan_of s i dt t) i t flux.0 flux.1 m (temperature_fits_lem s i dt t h)) (next_clock k))
