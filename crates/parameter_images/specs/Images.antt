-- The images of a Doyle-Fuller-Newman cell's parameters (59 words) and grid (5).
use Rattle.std.specs.Prelude.{ℕ, List, [], ◌∷◌, get_or, Float}
use Rattle.std.specs.Float.{nan}
use Rattle.codec.specs.Words.{word_at, put_word, float_at, put_float, places_at, put_row}
use Rattle.dfn_parameters.specs.declared.DfnParams.{DfnParams}
use Rattle.dfn_parameters.specs.declared.DfnConfig.{DfnConfig}
use Rattle.image_layout.specs.Layout.{dfn_count_neg, dfn_coefficients_neg, dfn_count_pos, dfn_coefficients_pos, dfn_nodes_neg, dfn_nodes_pos, dfn_nodes_radial, dfn_v_min, dfn_v_max}

-- ---- a Doyle-Fuller-Newman cell's parameters: 25 numbers, then for the anode and for the cathode a count and 16 coefficients

-- from the numbers in the record's order
unfoldable pub params_of : List Float → ℕ → List Float → ℕ → List Float → DfnParams
params_of x neg_count neg pos_count pos = record {
  l_neg = get_or x 0 nan;
  l_sep = get_or x 1 nan;
  l_pos = get_or x 2 nan;
  area = get_or x 3 nan;
  r_neg = get_or x 4 nan;
  d_s_neg_ref = get_or x 5 nan;
  c_s_neg_max = get_or x 6 nan;
  eps_neg = get_or x 7 nan;
  theta_neg_0 = get_or x 8 nan;
  k_neg = get_or x 9 nan;
  r_pos = get_or x 10 nan;
  d_s_pos_ref = get_or x 11 nan;
  c_s_pos_max = get_or x 12 nan;
  eps_pos = get_or x 13 nan;
  theta_pos_0 = get_or x 14 nan;
  k_pos = get_or x 15 nan;
  c_e0 = get_or x 16 nan;
  d_e0 = get_or x 17 nan;
  gamma_e = get_or x 18 nan;
  t_plus = get_or x 19 nan;
  kappa0 = get_or x 20 nan;
  eps_e_elec = get_or x 21 nan;
  eps_e_sep = get_or x 22 nan;
  brugg = get_or x 23 nan;
  temperature_k = get_or x 24 nan;
  ocv_neg_count = neg_count;
  ocv_neg_coeffs = neg;
  ocv_pos_count = pos_count;
  ocv_pos_coeffs = pos;
}

unfoldable pub params_at : List ℕ → DfnParams
params_at s = params_of (places_at 25 s 0) (word_at s dfn_count_neg) (places_at 16 s dfn_coefficients_neg) (word_at s dfn_count_pos) (places_at 16 s dfn_coefficients_pos)

unfoldable pub params_numbers : DfnParams → List Float
params_numbers p =
    p.l_neg ∷ p.l_sep ∷ p.l_pos ∷ p.area ∷ p.r_neg ∷ p.d_s_neg_ref ∷ p.c_s_neg_max ∷ p.eps_neg ∷ p.theta_neg_0 ∷ p.k_neg
    ∷ p.r_pos ∷ p.d_s_pos_ref ∷ p.c_s_pos_max ∷ p.eps_pos ∷ p.theta_pos_0 ∷ p.k_pos ∷ p.c_e0 ∷ p.d_e0 ∷ p.gamma_e
    ∷ p.t_plus ∷ p.kappa0 ∷ p.eps_e_elec ∷ p.eps_e_sep ∷ p.brugg ∷ p.temperature_k ∷ []

unfoldable pub put_params : List ℕ → DfnParams → List ℕ
put_params s p =
    put_row
    (put_word (put_row (put_word (put_row s 0 (params_numbers p)) dfn_count_neg p.ocv_neg_count) dfn_coefficients_neg p.ocv_neg_coeffs) dfn_count_pos p.ocv_pos_count)
    dfn_coefficients_pos
    p.ocv_pos_coeffs

-- ---- its grid and voltage limits

unfoldable pub config_at : List ℕ → DfnConfig
config_at s = record {
  n_x_neg = word_at s dfn_nodes_neg;
  n_x_pos = word_at s dfn_nodes_pos;
  n_r = word_at s dfn_nodes_radial;
  v_min = float_at s dfn_v_min;
  v_max = float_at s dfn_v_max;
}

unfoldable pub put_config : List ℕ → DfnConfig → List ℕ
put_config s c =
    put_float (put_float (put_word (put_word (put_word s dfn_nodes_neg c.n_x_neg) dfn_nodes_pos c.n_x_pos) dfn_nodes_radial c.n_r) dfn_v_min c.v_min) dfn_v_max c.v_max
