-- The image of a Doyle-Fuller-Newman cell (1126 words), and what a step adds to its cell's.
use Rattle.std.specs.Prelude.{ℕ, cond, List, [], ◌∷◌, Float}
use Rattle.codec.specs.Words.{put_word, float_at, places_at, put_row}
use Rattle.dfn_parameters.specs.declared.DfnParams.{DfnParams}
use Rattle.dfn_parameters.specs.declared.DfnConfig.{DfnConfig}
use Rattle.dfn.specs.declared.DfnSolver.{DfnSolver}
use Rattle.dfn.specs.declared.DfnStep.{DfnStep}
use Rattle.parameter_images.specs.Images.{params_at, put_params, config_at, put_config}
use Rattle.image_layout.specs.Layout.{dfn_anode, dfn_cathode, dfn_electrolyte, dfn_clock, dfn_voltage, dfn_current, dfn_theta_neg, dfn_theta_pos, dfn_report, dfn_cutoff, dfn_newton}

-- ---- the cell: parameters, grid, the particles of anode and cathode, the electrolyte, the clock, what the last step reported

unfoldable pub cell_at : List ℕ → DfnSolver
cell_at s = record {
  params = params_at s;
  config = config_at s;
  c_s_neg = places_at 512 s dfn_anode;
  c_s_pos = places_at 512 s dfn_cathode;
  c_e = places_at 33 s dfn_electrolyte;
  time_s = float_at s dfn_clock;
  voltage = float_at s dfn_voltage;
  current = float_at s dfn_current;
  theta_neg_surf = float_at s dfn_theta_neg;
  theta_pos_surf = float_at s dfn_theta_pos;
}

-- parameters, configuration, both electrodes, the electrolyte
abbrev pub put_cell_places : List ℕ → DfnParams → DfnConfig → List Float → List Float → List Float → List ℕ
put_cell_places s p g neg pos e = put_row (put_row (put_row (put_config (put_params s p) g) dfn_anode neg) dfn_cathode pos) dfn_electrolyte e

-- clock, voltage, current, stoichiometries of the surfaces
abbrev pub put_last : List ℕ → Float → Float → Float → Float → Float → List ℕ
put_last s time v i neg pos = put_row s dfn_clock (time ∷ v ∷ i ∷ neg ∷ pos ∷ [])

unfoldable pub put_cell : List ℕ → DfnSolver → List ℕ
put_cell s d =
    put_last (put_cell_places s d.params d.config d.c_s_neg d.c_s_pos d.c_e)
    d.time_s d.voltage d.current d.theta_neg_surf d.theta_pos_surf

-- ---- after the cell: the report of a step

abbrev pub report_numbers : DfnStep → List Float
report_numbers r = r.voltage ∷ r.current ∷ r.time_s ∷ r.theta_neg ∷ r.theta_pos ∷ r.delta_c_e_max ∷ []

unfoldable pub put_report : List ℕ → DfnStep → List ℕ
put_report s r = put_word (put_word (put_row s dfn_report (report_numbers r)) dfn_cutoff (cond r.cutoff 1 0)) dfn_newton r.newton_iter
