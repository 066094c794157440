-- The two electrodes of a cell, and the ranges of what each works with in a step that is not refused. Assumes nothing.
use Rattle.std.specs.Prelude.{ℕ, suc, ◌*◌, ◌^◌, ◌≤◌, ◌≡◌, refl, Bool, true, false, not, ◌&&◌, T, leb, eqb, ltb, Float}
use Rattle.std.proofs.Common.{le_trans, zero-lt-suc, arith, ltb-false, eqb→eq, lit≤, le→leb}
use Rattle.std.specs.Float.{nan, inf, fin}
use Rattle.std.specs.Float.Ieee.{le, lt, neg, of_bits, up, down}
use Rattle.std.specs.Float.Ieee.Bits.{is_true, is_false}
use Rattle.std.specs.Float.Ieee.Fits.{and_l, and_r, and_i, down_pos}
use Rattle.std.specs.Float.Ieee.Positive.{num, den}
use Rattle.fraction.specs.Fraction.{nat, ◌≤F◌, ◌<F◌}
use Rattle.fraction.proofs.Field.{≈F-sym, ≤F-of-≈F, ≤F-trans, lt_from}
use Rattle.fraction.proofs.Size.{size_pos}
use Rattle.binary64.specs.Operators.{◌⊘◌, count, negative}
use Rattle.binary64.specs.Range.{Within, Most, Sized, sized, most_wider, neg_most}
use Rattle.binary64.proofs.RangeTests.{literal, tested_sized}
use Rattle.binary64.proofs.RangeOps.{mul_between, div_between, div_most, div_count}
use Rattle.binary64.proofs.Bounds.{within_scaled}
use Rattle.binary64.specs.Value.{val, val_is, ratio_nn}
use Rattle.binary64.proofs.Value.{lt_val}
use Rattle.binary64.specs.Literals.{«0·0», «1·0», «3·0», «4096·0», «86400·0», «1e6»}
use Rattle.min_max.specs.Count.{ceil_of}
use Rattle.min_max.proofs.CountLaws.{ceil_least}
use Rattle.refusal.specs.Numbers.{first_refusal, refusal_unless, grid, load, interval, temperature, sub_steps_value, neither_refused, passed}
use Rattle.refusal.specs.Ranges.{load_fits_of, interval_fits, temperature_fits, clock_fits}
use Rattle.refusal.specs.RangeLaws.{row_at}
use Rattle.diffusion.specs.Premises.{zero_fine, zero_val}
use Rattle.electrode.specs.declared.ElectrodeParams.{ElectrodeParams}
use Rattle.electrode.specs.Sheet.{sheet_fits, specific_area}
use Rattle.particle.specs.declared.ParticleDiffusion.{ParticleDiffusion}
use Rattle.particle.specs.Checks.{nodes_fit, fields_fit_of, particle_refusal}
use Rattle.particle.specs.Particle.{sub_step_params_of}
use Rattle.particle_laws.specs.Ranges.{Ranged, sheet_ranges, sheet_passed, within, wider, particle_ranged, diffusivity_range, interval_range}
use Rattle.kinetics.specs.declared.SpmConfig.{SpmConfig}
use Rattle.kinetics.specs.Kinetics.{config_rows, config_fits, surface_current}
use Rattle.solver.specs.declared.SpmSolver.{SpmSolver}
use Rattle.solver_step.specs.declared.plan.Plan.{Plan}
use Rattle.solver.specs.Cell.{grid_fits, cell_refusal, NodesValid, anode_nodes, cathode_nodes, cell_valid}
use Rattle.solver_step.specs.Plans.{plan_refusal, sub_steps_of}
use Rattle.solver.specs.Step.{input_refusal, current_density, plan_of}

pub data Electrode : Type 0 where
  anode : Electrode
  cathode : Electrode

-- an electrode's particle, and its diffusivity and flux in a plan
abbrev pub particle_at : Electrode → SpmSolver → ParticleDiffusion
particle_at Electrode.anode s = s.anode
particle_at Electrode.cathode s = s.cathode

abbrev pub diffusivity_in : Electrode → Plan → Float
diffusivity_in Electrode.anode p = p.d_neg
diffusivity_in Electrode.cathode p = p.d_pos

abbrev pub flux_in : Electrode → Plan → Float
flux_in Electrode.anode p = p.j_neg
flux_in Electrode.cathode p = p.j_pos

-- ---- a cell that passes the checks
fits_passes : (p : ParticleDiffusion) → NodesValid p → T (fields_fit_of p) → particle_refusal p ≡ 0
unfolding particle_refusal first_refusal refusal_unless
fits_passes p n f =
    let m = and_i (leb 3 p.n_nodes) (leb p.n_nodes 64) (le→leb 3 p.n_nodes n.0) (le→leb p.n_nodes 64 n.1) in
    rw (is_true (nodes_fit p.n_nodes) m, is_true (fields_fit_of p) f)

module _ (s : SpmSolver) (h : cell_refusal s ≡ 0) where
  abbrev c : Bool
  c = config_fits s.config

  abbrev a : Bool
  a = fields_fit_of s.anode

  abbrev b : Bool
  b = fields_fit_of s.cathode

  abbrev t : Bool
  t = clock_fits s.time_s

  pub config_passed : T (config_fits s.config)
  config_passed = and_l c a (and_l (c && a) b (and_l (c && a && b) t (cell_valid s h)))

  pub clock_passed : T (clock_fits s.time_s)
  clock_passed = and_r (c && a && b) t (cell_valid s h)

  pub electrode_passes : (e : Electrode) → particle_refusal (particle_at e s) ≡ 0
  electrode_passes Electrode.anode = fits_passes s.anode (anode_nodes s h) (and_r c a (and_l (c && a) b (and_l (c && a && b) t (cell_valid s h))))
  electrode_passes Electrode.cathode = fits_passes s.cathode (cathode_nodes s h) (and_r (c && a) b (and_l (c && a && b) t (cell_valid s h)))

  pub grid_passed : T (grid_fits s)
  unfolding cell_refusal
  grid_passed = passed (grid_fits s) grid (zero-lt-suc 0) (neither_refused _ _ h).0

  -- both grids have the config's count of nodes
  pub nodes_are : (e : Electrode) → (particle_at e s).n_nodes ≡ s.config.n_nodes
  nodes_are Electrode.anode =
      let n = s.config.n_nodes in
      eqb→eq _ _ (and_r (leb 3 n && leb n 64) (eqb s.anode.n_nodes n) (and_l (leb 3 n && leb n 64 && eqb s.anode.n_nodes n) (eqb s.cathode.n_nodes n) grid_passed))
  nodes_are Electrode.cathode =
      let n = s.config.n_nodes in
      eqb→eq _ _ (and_r (leb 3 n && leb n 64 && eqb s.anode.n_nodes n) (eqb s.cathode.n_nodes n) grid_passed)

  pub sheet_at_lem : (e : Electrode) → T (sheet_fits (particle_at e s).params)
  sheet_at_lem e = sheet_passed (particle_at e s) (electrode_passes e)

-- ---- the config's numbers
pub record ConfigRanges (g : SpmConfig) : Type 0 where
  pub faraday : Within g.faraday (2 ^ 17) 1 (2 ^ 16) 1
  pub gas : Within g.r_gas 9 1 8 1
  pub resistance : Sized g.r_electrolyte_ohm_m2 1 1

pub config_ranges : (g : SpmConfig) → T (config_fits g) → ConfigRanges g
unfolding of_bits
config_ranges g t =
    let at = row_at true (config_rows g) t in
    record {
      faraday = wider (within (at 2) tt tt) (2 ^ 17) 1 (2 ^ 16) 1 tt tt tt tt;
      gas = wider (within (at 3) tt tt) 9 1 8 1 tt tt tt tt;
      resistance = most_wider (tested_sized «0·0» g.r_electrolyte_ohm_m2 «1·0» tt tt tt (at 4).above (at 4).below) 1 1 tt tt;
    }

-- ---- a_s * L * F
three : Within «3·0» 3 1 3 1
unfolding of_bits
three = literal «3·0» 3 1 3 1 tt tt tt tt tt

-- from 2 ^ -7 to 2 ^ 42
pub surface_range : (p : ElectrodeParams) (g : SpmConfig) → T (sheet_fits p) → T (config_fits g) → Within (surface_current p g.faraday) (2 ^ 42) 1 1 (2 ^ 7)
unfolding surface_current specific_area
surface_range p g h k =
    let r = sheet_ranges p h in
    let solid = mul_between three r.solid 4 1 1 (2 ^ 6) tt tt tt tt in
    let surface = div_between solid r.radius (2 ^ 29) 1 (2 ^ 3) 1 tt tt tt tt tt in
    mul_between (mul_between surface r.thick (2 ^ 23) 1 1 (2 ^ 21) tt tt tt tt) (config_ranges g k).faraday (2 ^ 42) 1 1 (2 ^ 7) tt tt tt tt

pub surface_above : (p : ElectrodeParams) (g : SpmConfig) → T (sheet_fits p) → T (config_fits g) → nat 0 <F val (surface_current p g.faraday)
surface_above p g h k = size_pos (within_scaled (surface_range p g h k) 7 42 tt tt).size

-- ---- the fluxes, for a current of at most 2 ^ 20 A
module _ (s : SpmSolver) (h : cell_refusal s ≡ 0) where
  abbrev area_range : Within s.anode.params.area (2 ^ 14) 1 1 (2 ^ 20)
  area_range = (sheet_ranges s.anode.params (sheet_at_lem s h Electrode.anode)).plate

  pub area_above : nat 0 <F val s.anode.params.area
  area_above = size_pos (within_scaled area_range 20 14 tt tt).size

  pub density_range : (i : Float) → Sized i (2 ^ 20) 1 → Sized (current_density s i) (2 ^ 40) 1
  unfolding current_density
  density_range i m = sized (div_most m area_range (2 ^ 40) 1 tt tt tt)

  -- the two fluxes of a plan
  pub fluxes_range : (i dt t : Float) → Sized i (2 ^ 20) 1 → Sized (plan_of s i dt t).j_neg (2 ^ 100) 1 × Sized (plan_of s i dt t).j_pos (2 ^ 100) 1
  unfolding plan_of
  fluxes_range i dt t m = (sized (div_most (neg_most (density_range i m)) (surface_range s.anode.params s.config (sheet_at_lem s h Electrode.anode) (config_passed s h)) (2 ^ 100) 1 tt tt tt), sized (div_most (density_range i m) (surface_range s.cathode.params s.config (sheet_at_lem s h Electrode.cathode) (config_passed s h)) (2 ^ 100) 1 tt tt tt))

-- ---- what a step that nothing refuses before it is made works with
pub current_range : (i : Float) → T (load_fits_of i «1e6») → Sized i (2 ^ 20) 1
unfolding of_bits neg
current_range i t =
    let hi = «1e6» in
    most_wider (tested_sized (neg hi) i hi tt tt tt (and_l (le (neg hi) i) (le i hi) t) (and_r (le (neg hi) i) (le i hi) t)) (2 ^ 20) 1 tt tt

not_below : (dt : Float) → T (lt «0·0» dt) → negative dt ≡ false
unfolding lt of_bits
not_below nan h = absurd h
not_below (inf true) h = absurd h
not_below (inf false) h = refl
not_below (fin true m e) h = absurd h
not_below (fin false m e) h = refl

most_above : {x : Float} {A C : ℕ} → Most x false A C → nat 0 ≤F val x
most_above {x} h = rw (val_is x h.fine, h.sign) (ratio_nn (num x) (den x) _)

-- ---- at most 4,096 sub-steps
whole_part : (x d : ℕ) → x * 1 ≤ 4096 * d → x ≤ 4096 * d
whole_part x d h = omega arith

pub count_below : (q : Float) → T (not (lt «4096·0» q)) → ceil_of q ≤ 4096
unfolding lt of_bits ceil_of
count_below nan h = lit≤ tt
count_below (inf true) h = lit≤ tt
count_below (inf false) h = absurd h
count_below (fin true m e) h = lit≤ tt
count_below (fin false m e) h =
    let l = ceil_least (m * up e) (down e) 4096 (down_pos e) (whole_part (m * up e) (down e) (ltb-false (4096 * down e) (m * up e * 1) (is_false (ltb (4096 * down e) (m * up e * 1)) h))) in
    omega arith

pub quotient_most : (p : Plan) → plan_refusal p ≡ 0 → T (not (lt «4096·0» p.q))
unfolding plan_refusal
quotient_most p h = passed (not (lt «4096·0» p.q)) sub_steps_value (zero-lt-suc 6) (neither_refused _ _ h).1

pub count_most : (p : Plan) → plan_refusal p ≡ 0 → sub_steps_of p ≤ 4096
count_most p h = count_below p.q (quotient_most p h)

module _ (s : SpmSolver) (i dt t : Float) (h : input_refusal s i dt t ≡ 0) where
  pub cell_passed : cell_refusal s ≡ 0
  unfolding input_refusal
  cell_passed = (neither_refused _ _ h).0

  pub current_fits_lem : Sized i (2 ^ 20) 1
  unfolding input_refusal
  current_fits_lem = current_range i (passed (load_fits_of i «1e6») load (zero-lt-suc 2) (neither_refused _ _ (neither_refused _ _ h).1).0)

  pub interval_fits_lem : T (interval_fits dt)
  unfolding input_refusal
  interval_fits_lem = passed (interval_fits dt) interval (zero-lt-suc 3) (neither_refused _ _ (neither_refused _ _ (neither_refused _ _ h).1).1).0

  pub temperature_fits_lem : T (temperature_fits t)
  unfolding input_refusal
  temperature_fits_lem = passed (temperature_fits t) temperature (zero-lt-suc 4) (neither_refused _ _ (neither_refused _ _ (neither_refused _ _ h).1).1).1

  -- the interval is finite and at least 0
  pub interval_size : Sized dt (2 ^ 17) 1 × (nat 0 ≤F val dt)
  interval_size = interval_range dt interval_fits_lem

  -- and above 0
  pub interval_above : nat 0 <F val dt
  interval_above =
      let l = lt_val «0·0» dt zero_fine interval_size.0.fine (and_l (lt «0·0» dt) (le dt «86400·0») interval_fits_lem) in
      lt_from l (λ (b : val dt ≤F nat 0). ≤F-trans b (≤F-of-≈F (≈F-sym zero_val)))

  part_range : (k : ℕ) → suc k ≤ 4096 → Most (dt ⊘ count (suc k)) false (2 ^ 17) 1
  part_range k l =
      let m : Most dt false (2 ^ 17) 1 = rw (not_below dt (and_l (lt «0·0» dt) (le dt «86400·0») interval_fits_lem)) at interval_size.0 in
      div_count m (suc k) 1 (2 ^ 17) 1 (omega arith) (le_trans l (lit≤ tt)) tt tt tt

  pub diffusivity_in_lem : (e : Electrode) → Within (diffusivity_in e (plan_of s i dt t)) (2 ^ 19) 1 1 (2 ^ 113)
  unfolding plan_of
  diffusivity_in_lem Electrode.anode = diffusivity_range s.anode.params t (sheet_at_lem s cell_passed Electrode.anode) temperature_fits_lem
  diffusivity_in_lem Electrode.cathode = diffusivity_range s.cathode.params t (sheet_at_lem s cell_passed Electrode.cathode) temperature_fits_lem

  -- each sub-step at each electrode is in its ranges, with a flux that is in its own
  pub sub_step_ranged_by : (e : Electrode) (j : Float) → Sized j (2 ^ 100) 1 → (k : ℕ) → suc k ≤ 4096 → Ranged (sub_step_params_of (particle_at e s) (diffusivity_in e (plan_of s i dt t)) j (dt ⊘ count (suc k)))
  sub_step_ranged_by e j n k l = let m = part_range k l in particle_ranged (particle_at e s) (electrode_passes s cell_passed e) (diffusivity_in_lem e) n (sized m) (most_above m)
