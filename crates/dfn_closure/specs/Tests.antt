-- The ranges that the cell's arrays need, out of the parameters' chain of tests. Assumes nothing.
use Rattle.std.specs.Prelude.{ℕ, true, ◌&&◌, T, get_or, Float}
use Rattle.std.specs.Float.Ieee.Fits.{and_l, and_r}
use Rattle.refusal.specs.RangeLaws.{Between, ranges_first, row_at, Holds, zeros}
use Rattle.dfn_parameters.specs.Ranges.{side_rows, side_fits, other_rows, numbers_fit, coefficients_fit, parameters_fit}
use Rattle.dfn_parameters.specs.Sides.{anode_of, cathode_of}
use Rattle.dfn_parameters.specs.declared.DfnParams.{DfnParams}
use Rattle.binary64.specs.Literals.{«0·0», «1·0», «100000·0», «131072·0»}

-- ---- ends of ranges
-- 1, 131,072
abbrev pub unit : Float
unit = «1·0»

abbrev pub top : Float
top = «131072·0»

-- 1e5
abbrev pub electrolyte_most : Float
electrolyte_most = «100000·0»

module _ (p : DfnParams) (h : T (parameters_fit p)) where
  numbers : T (numbers_fit p)
  unfolding parameters_fit
  numbers =
      let neg = coefficients_fit p.ocv_neg_coeffs p.ocv_neg_count in
      let pos = coefficients_fit p.ocv_pos_coeffs p.ocv_pos_count in
      and_l (numbers_fit p) neg (and_l (numbers_fit p && neg) pos h)

  sides : T (side_fits (anode_of p) && side_fits (cathode_of p))
  sides = ranges_first (side_fits (anode_of p) && side_fits (cathode_of p)) (other_rows p) numbers

  neg_row : (k : ℕ) → Holds (get_or (side_rows (anode_of p)) k zeros)
  neg_row = row_at true (side_rows (anode_of p)) (and_l (side_fits (anode_of p)) (side_fits (cathode_of p)) sides)

  pos_row : (k : ℕ) → Holds (get_or (side_rows (cathode_of p)) k zeros)
  pos_row = row_at true (side_rows (cathode_of p)) (and_r (side_fits (anode_of p)) (side_fits (cathode_of p)) sides)

  pub max_neg : Between unit p.c_s_neg_max top
  max_neg = neg_row 3

  pub max_pos : Between unit p.c_s_pos_max top
  max_pos = pos_row 3

  pub theta_neg_lem : Between «0·0» p.theta_neg_0 unit
  theta_neg_lem = neg_row 5

  pub theta_pos_lem : Between «0·0» p.theta_pos_0 unit
  theta_pos_lem = pos_row 5

  pub c_e_of : Between unit p.c_e0 electrolyte_most
  c_e_of = row_at (side_fits (anode_of p) && side_fits (cathode_of p)) (other_rows p) numbers 2
