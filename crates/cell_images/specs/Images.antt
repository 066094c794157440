-- The image of a single-particle cell (159 words), and what a step adds to it.
use Rattle.std.specs.Prelude.{ℕ, cond, List, [], ◌∷◌, Float}
use Rattle.codec.specs.Words.{put_word, float_at, put_float, put_row}
use Rattle.sheet_images.specs.Images.{particle_at, put_particle, config_at, put_config}
use Rattle.solver.specs.declared.SpmSolver.{SpmSolver}
use Rattle.solver_step.specs.declared.report.SpmState.{SpmState}
use Rattle.image_layout.specs.Layout.{cell_anode, cell_cathode, cell_clock, cell_report, cell_cutoff, cell_sub_steps}

-- ---- a cell: configuration, anode, cathode, clock

unfoldable pub cell_at : List ℕ → SpmSolver
cell_at s = record {
  config = config_at s;
  anode = particle_at s cell_anode;
  cathode = particle_at s cell_cathode;
  time_s = float_at s cell_clock;
}

unfoldable pub put_cell : List ℕ → SpmSolver → List ℕ
put_cell s cell =
    put_float (put_particle (put_particle (put_config s cell.config) cell_anode cell.anode) cell_cathode cell.cathode) cell_clock cell.time_s

-- ---- after the cell: the report of a step with its count of sub-steps

abbrev pub state_numbers : SpmState → List Float
state_numbers r =
    r.voltage ∷ r.current ∷ r.theta_neg ∷ r.theta_pos ∷ r.theta_neg_avg ∷ r.theta_pos_avg ∷ r.time_s ∷ []

unfoldable pub put_report : List ℕ → SpmState → ℕ → List ℕ
put_report s r sub_steps_value = put_word (put_word (put_row s cell_report (state_numbers r)) cell_cutoff (cond r.cutoff 1 0)) cell_sub_steps sub_steps_value
