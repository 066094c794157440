-- What a step leads to: an accepted one to a cell that passes the checks again, a refused one to the cell as it was. Assumes nothing.
use Rattle.std.specs.Prelude.{ℕ, zero, suc, ◌≡◌, refl, Bool, true, false, cond, ◌&&◌, T, eqb, Float}
use Rattle.std.proofs.Common.{ap, arith, zero-lt-suc}
use Rattle.std.proofs.Math.Dec.{eqb-suc-zero}
use Rattle.std.specs.Float.Ieee.{le, lt, neg, of_bits}
use Rattle.std.specs.Float.Ieee.Scale.{finite}
use Rattle.std.specs.Float.Ieee.Fits.{and_i, and_l, and_r}
use Rattle.binary64.specs.Operators.{◌⊕◌}
use Rattle.binary64.specs.Order.{between_finite}
use Rattle.binary64.specs.Literals.{«0·0», «86400·0», «1e6»}
use Rattle.refusal.specs.Numbers.{first_refusal, refusal_unless, load, interval, neither_refused, passed}
use Rattle.refusal.specs.Ranges.{load_fits_of, interval_fits, clock_fits}
use Rattle.refusal.specs.RangeLaws.{Between}
use Rattle.dfn_parameters.specs.Ranges.{parameters_fit, grid_fits, limits_fit}
use Rattle.dfn_parameters.specs.Sides.{anode_of, cathode_of, pore_flux}
use Rattle.arrays.specs.Places.{all_finite}
use Rattle.dfn_places.specs.Places.{solid_fits, electrolyte_fits}
use Rattle.dfn_solid.specs.Solid.{d_solids, solid_after}
use Rattle.dfn_solid.specs.Room.{room}
use Rattle.dfn_electrolyte.specs.Electrolyte.{diffusivity_params, region_of, d_effs, electrolyte_after}
use Rattle.dfn.specs.Checks.{Fields, used_neg, used_pos, used_electrolyte, fields_fit_of, cell_refusal, step_refusal, cell_grid, cell_fields, fields_valid, step_cell}
use Rattle.dfn.specs.Step.{particle_params, moved_by, report_of, cell_with, all_numbers, no_report, refused_with, answered, followed, advanced, stepped}
use Rattle.dfn.specs.declared.DfnSolver.{DfnSolver}
use Rattle.dfn.specs.declared.DfnStep.{DfnStep}
use Rattle.dfn.specs.Answers.{DfnStepAnswer}
use Rattle.dfn_closure.specs.Clamped.{le_chain, clock_on}
use Rattle.dfn_closure.specs.Tests.{unit, top, max_neg, max_pos}
use Rattle.dfn_closure.specs.Arrays.{solid_closed, electrolyte_closed}

-- ---- what a step answers
module _ (d new : DfnSolver) (r : DfnStep) where
  abbrev outcome : ℕ → Bool → DfnStepAnswer
  outcome k b = cond (eqb k 0) (cond b (record { refusal = 0; report = r; cell = new }) (refused_with 8 d)) (refused_with k d)

  accepted : (k : ℕ) (b : Bool) → (outcome k b).refusal ≡ 0 → (k ≡ 0) × ((T b) × (outcome k b ≡ record { refusal = 0; report = r; cell = new }))
  accepted zero true h = (refl, (tt, refl))
  accepted zero false h = absurd (omega (arith, h))
  accepted (suc k) b h = let e : suc k ≡ 0 = rw eqb-suc-zero at h in absurd (omega (arith, e))

  refused : (k : ℕ) (b : Bool) → ((outcome k b).refusal ≡ 0 → ⊥) → ((outcome k b).cell ≡ d) × ((outcome k b).report ≡ no_report)
  refused zero true n = absurd (n refl)
  refused zero false n = (refl, refl)
  refused (suc k) b n = rw eqb-suc-zero (refl, refl)

abbrev pub new_cell : DfnSolver → Float → Float → DfnSolver
new_cell d current dt = cell_with d (moved_by d current dt) (report_of d (moved_by d current dt) current dt)

-- A STEP THAT IS REFUSED leaves the cell as it is, bit for bit, and reports nothing
pub step_refused : (d : DfnSolver) (current dt : Float) → ((stepped d current dt).refusal ≡ 0 → ⊥) → ((stepped d current dt).cell ≡ d) × ((stepped d current dt).report ≡ no_report)
unfolding stepped advanced followed answered
step_refused d current dt n =
    let r = report_of d (moved_by d current dt) current dt in
    refused d (new_cell d current dt) r (step_refusal d current dt) (all_numbers (new_cell d current dt) r) n

-- what an accepted one has met
pub record Accepted (d : DfnSolver) (current dt : Float) : Type 0 where
  pub before : step_refusal d current dt ≡ 0
  pub numbers : T (all_numbers (new_cell d current dt) (report_of d (moved_by d current dt) current dt))
  pub leaves : (stepped d current dt).cell ≡ new_cell d current dt

pub accepted_step : (d : DfnSolver) (current dt : Float) → (stepped d current dt).refusal ≡ 0 → Accepted d current dt
unfolding stepped advanced followed answered
accepted_step d current dt h =
    let r = report_of d (moved_by d current dt) current dt in
    let q = accepted d (new_cell d current dt) r (step_refusal d current dt) (all_numbers (new_cell d current dt) r) h in
    record { before = q.0; numbers = q.1.0; leaves = ap (λ (a : DfnStepAnswer). a.cell) q.1.1 }

-- ---- numbers
pub one_finite : T (finite unit)
unfolding of_bits
one_finite = tt

top_finite : T (finite top)
unfolding of_bits
top_finite = tt

pub zero_finite : T (finite «0·0»)
unfolding of_bits
zero_finite = tt

day_finite : T (finite «86400·0»)
unfolding of_bits
day_finite = tt

zero_one : T (le «0·0» unit)
unfolding of_bits le
zero_one = tt

pub max_finite : (x : Float) → Between unit x top → T (finite x)
max_finite x h = between_finite unit x top one_finite top_finite h.above h.below

pub max_above : (x : Float) → Between unit x top → T (le «0·0» x)
max_above x h = le_chain «0·0» unit x zero_finite one_finite (max_finite x h) zero_one h.above

-- ---- the fields of the new cell
step_interval : (d : DfnSolver) (current dt : Float) → step_refusal d current dt ≡ 0 → T (interval_fits dt)
unfolding step_refusal
step_interval d current dt h = passed (interval_fits dt) interval (zero-lt-suc 3) (neither_refused _ _ (neither_refused _ _ h).1).1

-- the tests of 8 that the checks need
record Counted (d : DfnSolver) (r : DfnStep) : Type 0 where
  neg : T (all_finite d.c_s_neg (used_neg d.config))
  pos : T (all_finite d.c_s_pos (used_pos d.config))
  c_e_of : T (all_finite d.c_e (used_electrolyte d.config))
  time : T (finite r.time_s)

counted : (d : DfnSolver) (r : DfnStep) → T (all_numbers d r) → Counted d r
unfolding all_numbers
counted d r t =
    let b1 = all_finite d.c_s_neg (used_neg d.config) in
    let b2 = all_finite d.c_s_pos (used_pos d.config) in
    let b3 = all_finite d.c_e (used_electrolyte d.config) in
    let b4 = finite r.voltage in
    let b5 = finite r.current in
    let b6 = finite r.time_s in
    let b7 = finite r.theta_neg in
    let b8 = finite r.theta_pos in
    let b9 = finite r.delta_c_e_max in
    let t6 = and_l (b1 && b2 && b3 && b4 && b5 && b6) b7 (and_l (b1 && b2 && b3 && b4 && b5 && b6 && b7) b8 (and_l (b1 && b2 && b3 && b4 && b5 && b6 && b7 && b8) b9 t)) in
    let t3 = and_l (b1 && b2 && b3) b4 (and_l (b1 && b2 && b3 && b4) b5 (and_l (b1 && b2 && b3 && b4 && b5) b6 t6)) in
    let t2 = and_l (b1 && b2) b3 t3 in
    record { neg = and_l b1 b2 t2; pos = and_r b1 b2 t2; c_e_of = and_r (b1 && b2) b3 t3; time = and_r (b1 && b2 && b3 && b4 && b5) b6 t6 }

-- the fields, and then the grid, put together
fields_fit : (d : DfnSolver) → Fields d → T (fields_fit_of d)
fields_fit d f =
    let b1 = parameters_fit d.params in
    let b2 = limits_fit d.config in
    let b3 = solid_fits d.c_s_neg (used_neg d.config) d.params.c_s_neg_max in
    let b4 = solid_fits d.c_s_pos (used_pos d.config) d.params.c_s_pos_max in
    let b5 = electrolyte_fits d.c_e (used_electrolyte d.config) in
    let b6 = clock_fits d.time_s in
    and_i (b1 && b2 && b3 && b4 && b5) b6
    (and_i (b1 && b2 && b3 && b4) b5 (and_i (b1 && b2 && b3) b4 (and_i (b1 && b2) b3 (and_i b1 b2 f.parameters f.limits) f.neg) f.pos) f.c_e_of)
    f.clock

none : (a b : Bool) → T a → T b → first_refusal (refusal_unless a 1) (refusal_unless b 2) ≡ 0
unfolding first_refusal refusal_unless
none true true p q = refl
none true false p q = absurd q
none false b p q = absurd p

pub cell_passes : (d : DfnSolver) → T (grid_fits d.config) → Fields d → cell_refusal d ≡ 0
unfolding cell_refusal
cell_passes d g f = none (grid_fits d.config) (fields_fit_of d) g (fields_fit d f)

clock_closed : (t dt : Float) → T (clock_fits t) → T (interval_fits dt) → T (finite (t ⊕ dt)) → T (clock_fits (t ⊕ dt))
clock_closed t dt c i f =
    let day = «86400·0» in
    let z = «0·0» in
    and_i (finite (t ⊕ dt)) (le z (t ⊕ dt)) f
    (clock_on t dt day day_finite (and_l (finite t) (le z t) c) (and_r (finite t) (le z t) c) (and_l (lt z dt) (le dt day) i) (and_r (lt z dt) (le dt day) i))

pub fields_closed : (d : DfnSolver) (current dt : Float) → Accepted d current dt → Fields (new_cell d current dt)
unfolding cell_with moved_by report_of solid_after electrolyte_after
fields_closed d current dt a =
    let p = d.params in
    let c = step_cell d current dt a.before in
    let g = cell_grid d c in
    let f = fields_valid d (cell_fields d c) in
    let M = max_neg p f.parameters in
    let N = max_pos p f.parameters in
    let n = counted (new_cell d current dt) (report_of d (moved_by d current dt) current dt) a.numbers in
    let vn = particle_params p (anode_of p) d.config.n_r (neg current) dt in
    let vp = particle_params p (cathode_of p) d.config.n_r current dt in
    let rn = region_of p (anode_of p) d.config.n_x_neg (pore_flux (anode_of p) p.area (neg current)) dt in
    let rp = region_of p (cathode_of p) d.config.n_x_pos (pore_flux (cathode_of p) p.area current) dt in
    record {
      parameters = f.parameters;
      limits = f.limits;
      neg = solid_closed vn d.c_s_neg (d_solids vn d.c_s_neg (used_neg d.config)) d.config.n_x_neg (room d.config.n_x_neg d.config.n_r g.most_neg g.most_r) zero_finite (max_finite p.c_s_neg_max M) (max_above p.c_s_neg_max M) f.neg n.neg;
      pos = solid_closed vp d.c_s_pos (d_solids vp d.c_s_pos (used_pos d.config)) d.config.n_x_pos (room d.config.n_x_pos d.config.n_r g.most_pos g.most_r) zero_finite (max_finite p.c_s_pos_max N) (max_above p.c_s_pos_max N) f.pos n.pos;
      c_e_of = electrolyte_closed rn rp d.c_e (d_effs (diffusivity_params p) d.c_e (used_electrolyte d.config)) (omega (arith, g.most_neg, g.most_pos)) f.c_e_of n.c_e_of;
      clock = clock_closed d.time_s dt f.clock (step_interval d current dt a.before) n.time;
    }

-- ---- the theorem
pub grid_kept : (d : DfnSolver) (current dt : Float) → cell_refusal d ≡ 0 → T (grid_fits (new_cell d current dt).config)
unfolding cell_refusal cell_with
grid_kept d current dt h = passed (grid_fits d.config) 1 (zero-lt-suc 0) (neither_refused _ _ h).0

-- so nothing refuses the same step again before it is made: only 8 can come
pub call_valid : (d : DfnSolver) (current dt : Float) → step_refusal d current dt ≡ 0 → first_refusal (refusal_unless (load_fits_of current «1e6») load) (refusal_unless (interval_fits dt) interval) ≡ 0
unfolding step_refusal
call_valid d current dt h = (neither_refused (cell_refusal d) _ h).1
