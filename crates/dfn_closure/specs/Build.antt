-- A build that is accepted gives a cell that passes the checks. Assumes nothing.
use Prim.Native.Nat.{ℕ, zero, suc, ◌≤◌}
use Rattle.std.specs.Prelude.{◌≡◌, cond, ◌&&◌, [], ◌∷◌, T, eqb, Float}
use Rattle.std.proofs.Math.Path.{refl}
use Rattle.std.proofs.Common.{arith, zero-lt-suc}
use Rattle.std.proofs.Math.Dec.{eqb-suc-zero}
use Rattle.std.specs.Float.{binary64}
use Rattle.std.specs.Float.Ieee.{le, fits, of_bits}
use Rattle.std.specs.Float.Ieee.Fits.{and_i, and_l, and_r}
use Rattle.fraction.specs.Fraction.{whole, nat, ◌≈F◌}
use Rattle.fraction.proofs.Field.{≈F-sym, ≤F-of-≈F, ≤F-trans}
use Rattle.fraction.proofs.Order.{lit≈F}
use Rattle.fraction.proofs.Certificate.{quote}
use Rattle.fraction.proofs.Certificate.{le_by, up, ◌⊠◌}
use Rattle.binary64.specs.Operators.{◌⊗◌}
use Rattle.binary64.specs.Order.{between_finite}
use Rattle.binary64.proofs.OrderLaws.{rounds_le}
use Rattle.binary64.proofs.Rounds.{representable, mul_rounds}
use Rattle.binary64.specs.Value.{val}
use Rattle.binary64.proofs.Value.{le_val}
use Rattle.binary64.specs.Literals.{«0·0»}
use Rattle.refusal.specs.Numbers.{grid, sheet, neither_refused, passed}
use Rattle.refusal.specs.Ranges.{in_range, clock_fits}
use Rattle.refusal.specs.RangeLaws.{Between}
use Rattle.dfn_parameters.specs.Ranges.{parameters_fit, grid_fits, limits_fit}
use Rattle.dfn_parameters.specs.declared.DfnParams.{DfnParams}
use Rattle.dfn_parameters.specs.declared.DfnConfig.{DfnConfig}
use Rattle.arrays.specs.Places.{filled}
use Rattle.arrays.specs.Laws.{filled_fits}
use Rattle.dfn_places.specs.Places.{solid_fits, electrolyte_fits}
use Rattle.dfn_solid.specs.Room.{room}
use Rattle.dfn.specs.Checks.{used_neg, used_pos, used_electrolyte, cell_refusal, grid_valid}
use Rattle.dfn.specs.Build.{new_refusal, fresh, no_cell, made}
use Rattle.dfn.specs.Answers.{DfnBuildAnswer}
use Rattle.dfn_closure.specs.Tests.{unit, top, electrolyte_most, max_neg, max_pos, theta_neg_lem, theta_pos_lem, c_e_of}
use Rattle.dfn_closure.specs.Closure.{zero_finite, one_finite, max_finite, max_above, cell_passes}

-- ---- theta * M is from 0 to M; M is a number of binary64, as each f64 of a program is
zero_val : val «0·0» ≈F nat 0
unfolding of_bits val whole
zero_val = lit≈F refl

one_val : val unit ≈F nat 1
unfolding of_bits val whole
one_val = lit≈F refl

zero_fits : T (fits binary64 «0·0»)
unfolding of_bits fits
zero_fits = tt

start_in : (x M : Float) → Between «0·0» x unit → Between unit M top → T (fits binary64 M) → T (in_range (x ⊗ M) «0·0» M)
start_in x M r m f =
    let p = between_finite «0·0» x unit zero_finite one_finite r.above r.below in
    let q = max_finite M m in
    let a = ≤F-trans (≤F-of-≈F (≈F-sym zero_val)) (le_val «0·0» x zero_finite p r.above) in
    let b = ≤F-trans (le_val x unit p one_finite r.below) (≤F-of-≈F one_val) in
    let c = ≤F-trans (≤F-of-≈F (≈F-sym zero_val)) (le_val «0·0» M zero_finite q (max_above M m)) in
    and_i (le «0·0» (x ⊗ M)) (le (x ⊗ M) M)
    (rounds_le (representable «0·0» zero_finite zero_fits) (mul_rounds x M p q) (≤F-trans (≤F-of-≈F zero_val) (le_by (val x ∷ val M ∷ []) 0 (a ⊠ c) (search quote depth 24) tt)))
    (rounds_le (mul_rounds x M p q) (representable M q f) (le_by (val x ∷ val M ∷ []) 0 (up b ⊠ c) (search quote depth 24) tt))

-- ---- an array that x fills to its used length
solid_filled : (n : ℕ) (x M : Float) → n ≤ 512 → T (in_range x «0·0» M) → T (solid_fits (filled 512 x n) n M)
unfolding solid_fits
solid_filled n x M m t = filled_fits (λ y. in_range y «0·0» M) 512 n x m t

electrolyte_filled : (n : ℕ) (x : Float) → n ≤ 33 → T (in_range x unit electrolyte_most) → T (electrolyte_fits (filled 33 x n) n)
unfolding electrolyte_fits
electrolyte_filled n x m t = filled_fits (λ y. in_range y unit electrolyte_most) 33 n x m t

zero_clock : T (clock_fits «0·0»)
unfolding of_bits le
zero_clock = tt

fresh_passes : (p : DfnParams) (g : DfnConfig) → T (fits binary64 p.c_s_neg_max) → T (fits binary64 p.c_s_pos_max) → new_refusal p g ≡ 0 → cell_refusal (fresh p g) ≡ 0
unfolding new_refusal fresh
fresh_passes p g m n h =
    let b = passed (grid_fits g) grid (zero-lt-suc 0) (neither_refused _ _ h).0 in
    let f = passed (parameters_fit p && limits_fit g) sheet (zero-lt-suc 1) (neither_refused _ _ h).1 in
    let t = and_l (parameters_fit p) (limits_fit g) f in
    let r = grid_valid g b in
    cell_passes (fresh p g) b (record {
      parameters = t;
      limits = and_r (parameters_fit p) (limits_fit g) f;
      neg =
          let x = p.theta_neg_0 in
          let M = p.c_s_neg_max in
          solid_filled (used_neg g) (x ⊗ M) M (room g.n_x_neg g.n_r r.most_neg r.most_r) (start_in x M (theta_neg_lem p t) (max_neg p t) m);
      pos =
          let x = p.theta_pos_0 in
          let M = p.c_s_pos_max in
          solid_filled (used_pos g) (x ⊗ M) M (room g.n_x_pos g.n_r r.most_pos r.most_r) (start_in x M (theta_pos_lem p t) (max_pos p t) n);
      c_e_of = electrolyte_filled (used_electrolyte g) p.c_e0 (omega (arith, r.most_neg, r.most_pos)) (and_i (le unit p.c_e0) (le p.c_e0 electrolyte_most) (c_e_of p t).above (c_e_of p t).below);
      clock = zero_clock;
    })

-- ---- what a build answers
module _ (p : DfnParams) (g : DfnConfig) where
  abbrev outcome : ℕ → DfnBuildAnswer
  outcome k = cond (eqb k 0) (record { refusal = 0; cell = fresh p g }) (record { refusal = k; cell = no_cell })

  -- A BUILD THAT IS ACCEPTED gives a cell that passes the checks; both largest concentrations are numbers of binary64
  pub build_passes : T (fits binary64 p.c_s_neg_max) → T (fits binary64 p.c_s_pos_max) → (made p g).refusal ≡ 0 → cell_refusal (made p g).cell ≡ 0
  unfolding made
  build_passes m n = go (new_refusal p g) refl
    where
      go : (k : ℕ) → new_refusal p g ≡ k → (outcome k).refusal ≡ 0 → cell_refusal (outcome k).cell ≡ 0
      go zero e z = fresh_passes p g m n e
      go (suc k) e z = let y : suc k ≡ 0 = rw (eqb-suc-zero k) at z in absurd (omega (arith, y))

  -- A BUILD THAT IS REFUSED gives the record whose every number is +0 and whose counts are 0
  pub build_refused : ((made p g).refusal ≡ 0 → ⊥) → (made p g).cell ≡ no_cell
  unfolding made
  build_refused = go (new_refusal p g)
    where
      go : (k : ℕ) → ((outcome k).refusal ≡ 0 → ⊥) → (outcome k).cell ≡ no_cell
      go zero n = absurd (n refl)
      go (suc k) n = rw (eqb-suc-zero k)
