-- Building a cell. Definitions only.
use Rattle.std.specs.Prelude.{ℕ, cond, ◌&&◌, replicate, ◌==◌}
use Rattle.binary64.specs.Operators.{◌⊗◌}
use Rattle.binary64.specs.Literals.{«0·0», «3·8»}
use Rattle.refusal.specs.Numbers.{first_refusal, refusal_unless, grid, sheet}
use Rattle.dfn_parameters.specs.Ranges.{parameters_fit, grid_fits, limits_fit}
use Rattle.dfn_parameters.specs.declared.DfnParams.{DfnParams}
use Rattle.dfn_parameters.specs.declared.DfnConfig.{DfnConfig}
use Rattle.arrays.specs.Places.{filled}
use Rattle.dfn.specs.Checks.{used_neg, used_pos, used_electrolyte}
use Rattle.dfn.specs.declared.DfnSolver.{DfnSolver}
use Rattle.dfn.specs.Answers.{DfnBuildAnswer}

-- a build checks 1 and 2
unfoldable pub new_refusal : DfnParams → DfnConfig → ℕ
new_refusal p g = first_refusal (refusal_unless (grid_fits g) grid) (refusal_unless (parameters_fit p && limits_fit g) sheet)

-- the particles at theta_0 * c_max, the electrolyte at c_e0, 3.8 V, at rest
unfoldable pub fresh : DfnParams → DfnConfig → DfnSolver
fresh p g = record {
  params = p;
  config = g;
  c_s_neg = filled 512 (p.theta_neg_0 ⊗ p.c_s_neg_max) (used_neg g);
  c_s_pos = filled 512 (p.theta_pos_0 ⊗ p.c_s_pos_max) (used_pos g);
  c_e = filled 33 p.c_e0 (used_electrolyte g);
  time_s = «0·0»;
  voltage = «3·8»;
  current = «0·0»;
  theta_neg_surf = p.theta_neg_0;
  theta_pos_surf = p.theta_pos_0;
}

-- ---- the record whose every number is +0 and whose counts are 0, beside a refused build
abbrev no_parameters : DfnParams
no_parameters = record {
  l_neg = «0·0»;
  l_sep = «0·0»;
  l_pos = «0·0»;
  area = «0·0»;
  r_neg = «0·0»;
  d_s_neg_ref = «0·0»;
  c_s_neg_max = «0·0»;
  eps_neg = «0·0»;
  theta_neg_0 = «0·0»;
  k_neg = «0·0»;
  r_pos = «0·0»;
  d_s_pos_ref = «0·0»;
  c_s_pos_max = «0·0»;
  eps_pos = «0·0»;
  theta_pos_0 = «0·0»;
  k_pos = «0·0»;
  c_e0 = «0·0»;
  d_e0 = «0·0»;
  gamma_e = «0·0»;
  t_plus = «0·0»;
  kappa0 = «0·0»;
  eps_e_elec = «0·0»;
  eps_e_sep = «0·0»;
  brugg = «0·0»;
  temperature_k = «0·0»;
  ocv_neg_count = 0;
  ocv_neg_coeffs = replicate 16 «0·0»;
  ocv_pos_count = 0;
  ocv_pos_coeffs = replicate 16 «0·0»;
}

abbrev no_grid : DfnConfig
no_grid = record { n_x_neg = 0; n_x_pos = 0; n_r = 0; v_min = «0·0»; v_max = «0·0» }

unfoldable pub no_cell : DfnSolver
no_cell = record {
  params = no_parameters;
  config = no_grid;
  c_s_neg = replicate 512 «0·0»;
  c_s_pos = replicate 512 «0·0»;
  c_e = replicate 33 «0·0»;
  time_s = «0·0»;
  voltage = «0·0»;
  current = «0·0»;
  theta_neg_surf = «0·0»;
  theta_pos_surf = «0·0»;
}

unfoldable pub made : DfnParams → DfnConfig → DfnBuildAnswer
made p g =
    cond (new_refusal p g == 0) (record { refusal = 0; cell = fresh p g }) (record { refusal = new_refusal p g; cell = no_cell })
