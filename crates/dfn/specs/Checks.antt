-- What a cell that is handed in is checked for, what a step is, and what one that nothing refuses has met. Assumes nothing.
use Rattle.std.specs.Prelude.{◌≡◌, ℕ, ◌+◌, ◌*◌, ◌≤◌, Bool, true, false, not, ◌&&◌, T, List, nat_le, Float}
use Rattle.std.proofs.Common.{sym, ◌∙◌, zero-lt-suc, leb→le}
use Rattle.std.proofs.lemmas.Bool.{not-false}
use Rattle.std.specs.Float.Ieee.{neg}
use Rattle.std.specs.Float.Ieee.Fits.{and_l, and_r}
use Rattle.refusal.specs.Numbers.{first_refusal, refusal_unless, grid, sheet, load, interval, neither_refused, passed}
use Rattle.refusal.specs.Ranges.{in_range, count_in_range, load_fits_of, interval_fits, clock_fits}
use Rattle.refusal.specs.RangeLaws.{count_between}
use Rattle.arrays.specs.Places.{places_fit}
use Rattle.dfn_parameters.specs.Ranges.{numbers_fit, coefficients_fit, parameters_fit, grid_fits, limits_fit}
use Rattle.dfn_parameters.specs.declared.DfnParams.{DfnParams}
use Rattle.dfn_parameters.specs.declared.DfnConfig.{DfnConfig}
use Rattle.dfn_places.specs.Places.{solid_fits, electrolyte_fits}
use Rattle.dfn.specs.declared.DfnSolver.{DfnSolver}
use Rattle.binary64.specs.Literals.{«1000·0», «1e6»}

-- how many places are used
abbrev pub used_neg : DfnConfig → ℕ
used_neg g = g.n_x_neg * g.n_r

abbrev pub used_pos : DfnConfig → ℕ
used_pos g = g.n_x_pos * g.n_r

abbrev pub used_electrolyte : DfnConfig → ℕ
used_electrolyte g = g.n_x_neg + 1 + g.n_x_pos

-- parameters, grid but for its counts, the particles of both electrodes, the electrolyte and the clock: all but what a step only overwrites
abbrev pub parts_fit : DfnParams → DfnConfig → List Float → List Float → List Float → Float → Bool
parts_fit p g neg pos c_e_of t =
    parameters_fit p
    && limits_fit g
    && solid_fits neg (used_neg g) p.c_s_neg_max
    && solid_fits pos (used_pos g) p.c_s_pos_max
    && electrolyte_fits c_e_of (used_electrolyte g)
    && clock_fits t

abbrev pub fields_fit_of : DfnSolver → Bool
fields_fit_of d = parts_fit d.params d.config d.c_s_neg d.c_s_pos d.c_e d.time_s

abbrev pub parts_refusal : DfnParams → DfnConfig → List Float → List Float → List Float → Float → ℕ
parts_refusal p g neg pos c_e_of t = first_refusal (refusal_unless (grid_fits g) grid) (refusal_unless (parts_fit p g neg pos c_e_of t) sheet)

unfoldable pub cell_refusal : DfnSolver → ℕ
cell_refusal d = parts_refusal d.params d.config d.c_s_neg d.c_s_pos d.c_e d.time_s

-- a current of at most 1e6 A
abbrev pub load_refusal : Float → Float → ℕ
load_refusal current dt =
    first_refusal (refusal_unless (load_fits_of current «1e6») load) (refusal_unless (interval_fits dt) interval)

unfoldable pub step_refusal : DfnSolver → Float → Float → ℕ
step_refusal d current dt = first_refusal (cell_refusal d) (load_refusal current dt)

-- ---- what a cell that nothing refuses has met
pub record Grid (g : DfnConfig) : Type 0 where
  pub least_neg : 1 ≤ g.n_x_neg
  pub most_neg : g.n_x_neg ≤ 16
  pub least_pos : 1 ≤ g.n_x_pos
  pub most_pos : g.n_x_pos ≤ 16
  pub least_r : 2 ≤ g.n_r
  pub most_r : g.n_r ≤ 32

-- as the step's parts need it
pub record Valid (d : DfnSolver) : Type 0 where
  pub nodes : Grid d.config
  pub coeffs_neg : d.params.ocv_neg_count ≤ 16
  pub coeffs_pos : d.params.ocv_pos_count ≤ 16

pub grid_valid : (g : DfnConfig) → T (grid_fits g) → Grid g
grid_valid g t =
    let a = count_in_range g.n_x_neg 1 16 in
    let b = count_in_range g.n_x_pos 1 16 in
    let c = count_in_range g.n_r 2 32 in
    let neg = count_between g.n_x_neg 1 16 (and_l a b (and_l (a && b) c t)) in
    let pos = count_between g.n_x_pos 1 16 (and_r a b (and_l (a && b) c t)) in
    let r = count_between g.n_r 2 32 (and_r (a && b) c t) in
    record { least_neg = neg.0; most_neg = neg.1; least_pos = pos.0; most_pos = pos.1; least_r = r.0; most_r = r.1 }

-- as a program's test leaves it
pub grid_of : (g : DfnConfig) (b : Bool) → b ≡ grid_fits g → not b ≡ false → Grid g
grid_of g b e h = let q : grid_fits g ≡ true = sym e ∙ not-false b h in grid_valid g (rw q tt)

pub cell_grid : (d : DfnSolver) → cell_refusal d ≡ 0 → Grid d.config
unfolding cell_refusal
cell_grid d h = grid_valid d.config (passed (grid_fits d.config) grid (zero-lt-suc 0) (neither_refused _ _ h).0)

pub cell_fields : (d : DfnSolver) → cell_refusal d ≡ 0 → T (fields_fit_of d)
unfolding cell_refusal
cell_fields d h = passed (fields_fit_of d) sheet (zero-lt-suc 1) (neither_refused _ _ h).1

-- the fields one by one
pub record Fields (d : DfnSolver) : Type 0 where
  pub parameters : T (parameters_fit d.params)
  pub limits : T (limits_fit d.config)
  pub neg : T (solid_fits d.c_s_neg (used_neg d.config) d.params.c_s_neg_max)
  pub pos : T (solid_fits d.c_s_pos (used_pos d.config) d.params.c_s_pos_max)
  pub c_e_of : T (electrolyte_fits d.c_e (used_electrolyte d.config))
  pub clock : T (clock_fits d.time_s)

pub fields_valid : (d : DfnSolver) → T (fields_fit_of d) → Fields d
fields_valid d t =
    let b1 = parameters_fit d.params in
    let b2 = limits_fit d.config in
    let b3 = solid_fits d.c_s_neg (used_neg d.config) d.params.c_s_neg_max in
    let b4 = solid_fits d.c_s_pos (used_pos d.config) d.params.c_s_pos_max in
    let b5 = electrolyte_fits d.c_e (used_electrolyte d.config) in
    let b6 = clock_fits d.time_s in
    let t5 = and_l (b1 && b2 && b3 && b4 && b5) b6 t in
    let t4 = and_l (b1 && b2 && b3 && b4) b5 t5 in
    let t3 = and_l (b1 && b2 && b3) b4 t4 in
    let t2 = and_l (b1 && b2) b3 t3 in
    record {
      parameters = and_l b1 b2 t2;
      limits = and_r b1 b2 t2;
      neg = and_r (b1 && b2) b3 t3;
      pos = and_r (b1 && b2 && b3) b4 t4;
      c_e_of = and_r (b1 && b2 && b3 && b4) b5 t5;
      clock = and_r (b1 && b2 && b3 && b4 && b5) b6 t;
    }

-- each side has at most 16 coefficients
few : (c : List Float) (n : ℕ) → T (coefficients_fit c n) → n ≤ 16
unfolding coefficients_fit
few c n t = leb→le n 16 (and_r (places_fit (λ x. in_range x (neg «1000·0») «1000·0») c n 16) (nat_le n 16) t)

pub coefficients_valid : (p : DfnParams) → T (parameters_fit p) → (p.ocv_neg_count ≤ 16) × (p.ocv_pos_count ≤ 16)
unfolding parameters_fit
coefficients_valid p t =
    let neg = coefficients_fit p.ocv_neg_coeffs p.ocv_neg_count in
    let pos = coefficients_fit p.ocv_pos_coeffs p.ocv_pos_count in
    (few p.ocv_neg_coeffs p.ocv_neg_count (and_r (numbers_fit p) neg (and_l (numbers_fit p && neg) pos t)), few p.ocv_pos_coeffs p.ocv_pos_count (and_r (numbers_fit p && neg) pos t))

pub cell_valid : (d : DfnSolver) → cell_refusal d ≡ 0 → Valid d
cell_valid d h =
    let n = coefficients_valid d.params (fields_valid d (cell_fields d h)).parameters in
    record { nodes = cell_grid d h; coeffs_neg = n.0; coeffs_pos = n.1 }

pub step_cell : (d : DfnSolver) (current dt : Float) → step_refusal d current dt ≡ 0 → cell_refusal d ≡ 0
unfolding step_refusal
step_cell d current dt h = (neither_refused _ _ h).0
