-- Where the parts of each record stand in its image, in words of eight bytes, and how many bytes an image has: docs/REFERENCE.md and harness/c/persimmonjib.h. Definitions, and one
-- law: each part starts where the one before it ends. Assumes nothing.
use Rattle.std.specs.Prelude.{ℕ, ◌+◌, ◌*◌, ◌≡◌, refl}

-- ---- a particle: its sheet, then

-- the count of nodes
abbrev pub particle_nodes : ℕ
particle_nodes = 11

-- the profile, 64 places
abbrev pub particle_profile : ℕ
particle_profile = 12

-- ---- a cell: its configuration, then

-- the anode's particle
abbrev pub cell_anode : ℕ
cell_anode = 6

-- its count of nodes
abbrev pub cell_anode_nodes : ℕ
cell_anode_nodes = 17

-- its profile
abbrev pub cell_anode_profile : ℕ
cell_anode_profile = 18

-- the cathode's particle
abbrev pub cell_cathode : ℕ
cell_cathode = 82

-- its count of nodes
abbrev pub cell_cathode_nodes : ℕ
cell_cathode_nodes = 93

-- its profile
abbrev pub cell_cathode_profile : ℕ
cell_cathode_profile = 94

-- the clock
abbrev pub cell_clock : ℕ
cell_clock = 158

-- ---- after a cell: a step's report, or a run's ending and its count of rows

-- seven numbers
abbrev pub cell_report : ℕ
cell_report = 159

-- whether the voltage left its limits
abbrev pub cell_cutoff : ℕ
cell_cutoff = 166

-- the count of sub-steps
abbrev pub cell_sub_steps : ℕ
cell_sub_steps = 167

-- the ending; the rows follow
abbrev pub cell_ending : ℕ
cell_ending = 159

-- ---- what a new cell is made of: a configuration, then

-- the anode's sheet
abbrev pub new_cell_anode : ℕ
new_cell_anode = 6

-- the cathode's sheet
abbrev pub new_cell_cathode : ℕ
new_cell_cathode = 17

-- ---- what a search found

-- a row or none
abbrev pub found_how : ℕ
found_how = 0

-- which row
abbrev pub found_row : ℕ
found_row = 1

-- ---- a phase of a cycle

-- its kind
abbrev pub phase_kind : ℕ
phase_kind = 0

-- its number
abbrev pub phase_number : ℕ
phase_number = 1

-- how many words it has; the eight phases of a cycle stand one after the other
abbrev pub phase_words : ℕ
phase_words = 2

-- ---- an electrolyte: its parameters, then

-- lengths and porosities
abbrev pub electrolyte_regions : ℕ
electrolyte_regions = 8

-- counts of nodes
abbrev pub electrolyte_nodes_neg : ℕ
electrolyte_nodes_neg = 14

abbrev pub electrolyte_nodes_sep : ℕ
electrolyte_nodes_sep = 15

abbrev pub electrolyte_nodes_pos : ℕ
electrolyte_nodes_pos = 16

-- the profile, 96 places
abbrev pub electrolyte_profile : ℕ
electrolyte_profile = 17

-- ---- a Doyle-Fuller-Newman cell: 25 numbers of its parameters, then

-- the anode's count of coefficients
abbrev pub dfn_count_neg : ℕ
dfn_count_neg = 25

-- its coefficients, 16 places
abbrev pub dfn_coefficients_neg : ℕ
dfn_coefficients_neg = 26

-- the cathode's count of coefficients
abbrev pub dfn_count_pos : ℕ
dfn_count_pos = 42

-- its coefficients
abbrev pub dfn_coefficients_pos : ℕ
dfn_coefficients_pos = 43

-- the grid
abbrev pub dfn_nodes_neg : ℕ
dfn_nodes_neg = 59

abbrev pub dfn_nodes_pos : ℕ
dfn_nodes_pos = 60

abbrev pub dfn_nodes_radial : ℕ
dfn_nodes_radial = 61

-- the voltage limits
abbrev pub dfn_v_min : ℕ
dfn_v_min = 62

abbrev pub dfn_v_max : ℕ
dfn_v_max = 63

-- the anode's particles, 512 places
abbrev pub dfn_anode : ℕ
dfn_anode = 64

-- the cathode's
abbrev pub dfn_cathode : ℕ
dfn_cathode = 576

-- the electrolyte, 33 places
abbrev pub dfn_electrolyte : ℕ
dfn_electrolyte = 1088

-- the clock
abbrev pub dfn_clock : ℕ
dfn_clock = 1121

-- what the last step reported
abbrev pub dfn_voltage : ℕ
dfn_voltage = 1122

abbrev pub dfn_current : ℕ
dfn_current = 1123

abbrev pub dfn_theta_neg : ℕ
dfn_theta_neg = 1124

abbrev pub dfn_theta_pos : ℕ
dfn_theta_pos = 1125

-- ---- after it: a step's report, or a run's ending and its count of rows

-- six numbers
abbrev pub dfn_report : ℕ
dfn_report = 1126

-- whether the voltage left its limits
abbrev pub dfn_cutoff : ℕ
dfn_cutoff = 1132

-- the count of iterations, 1
abbrev pub dfn_newton : ℕ
dfn_newton = 1133

-- the ending; the rows follow
abbrev pub dfn_ending : ℕ
dfn_ending = 1126

-- ---- lengths in bytes

abbrev pub number_bytes : ℕ
number_bytes = 8

abbrev pub sheet_bytes : ℕ
sheet_bytes = 88

abbrev pub particle_bytes : ℕ
particle_bytes = 608

abbrev pub new_particle_bytes : ℕ
new_particle_bytes = 96

abbrev pub config_bytes : ℕ
config_bytes = 48

abbrev pub new_cell_bytes : ℕ
new_cell_bytes = 224

abbrev pub cell_bytes : ℕ
cell_bytes = 1272

abbrev pub cell_step_bytes : ℕ
cell_step_bytes = 1344

abbrev pub cell_run_bytes : ℕ
cell_run_bytes = 1288

abbrev pub phase_bytes : ℕ
phase_bytes = 16

abbrev pub phases_bytes : ℕ
phases_bytes = 128

abbrev pub electrolyte_params_bytes : ℕ
electrolyte_params_bytes = 64

abbrev pub regions_bytes : ℕ
regions_bytes = 136

abbrev pub electrolyte_bytes : ℕ
electrolyte_bytes = 904

abbrev pub dfn_params_bytes : ℕ
dfn_params_bytes = 472

abbrev pub new_dfn_bytes : ℕ
new_dfn_bytes = 512

abbrev pub dfn_bytes : ℕ
dfn_bytes = 9008

abbrev pub dfn_step_bytes : ℕ
dfn_step_bytes = 9072

abbrev pub dfn_run_bytes : ℕ
dfn_run_bytes = 9024

abbrev pub solution_bytes : ℕ
solution_bytes = 256

abbrev pub found_bytes : ℕ
found_bytes = 16

pub record Layout : Type 0 where
  pub sheet : (sheet_bytes ≡ 8 * particle_nodes) × (new_particle_bytes ≡ 8 * particle_profile)
  pub particle : particle_bytes ≡ 8 * (particle_profile + 64)
  pub anode : config_bytes ≡ 8 * cell_anode
  pub anode_parts : (cell_anode_nodes ≡ cell_anode + particle_nodes) × (cell_anode_profile ≡ cell_anode + particle_profile)
  pub cathode : cell_cathode ≡ cell_anode_profile + 64
  pub cathode_parts : (cell_cathode_nodes ≡ cell_cathode + particle_nodes) × (cell_cathode_profile ≡ cell_cathode + particle_profile)
  pub clock : cell_clock ≡ cell_cathode_profile + 64
  pub cell : cell_bytes ≡ 8 * (cell_clock + 1)
  pub cell_step_lem : (cell_bytes ≡ 8 * cell_report) × ((cell_cutoff ≡ cell_report + 7) × (cell_step_bytes ≡ 8 * (cell_sub_steps + 1)))
  pub cell_run : (cell_bytes ≡ 8 * cell_ending) × (cell_run_bytes ≡ 8 * (cell_ending + 2))
  pub new_cell_lem : (new_cell_cathode ≡ new_cell_anode + particle_nodes) × (new_cell_bytes ≡ 8 * (new_cell_cathode + particle_nodes))
  pub found : (found_row ≡ found_how + 1) × (found_bytes ≡ 8 * (found_row + 1))
  pub phase : (phase_number ≡ phase_kind + 1) × ((phase_words ≡ phase_number + 1) × (phase_bytes ≡ 8 * phase_words))
  pub phases : phases_bytes ≡ 8 * phase_bytes
  pub electrolyte : (electrolyte_params_bytes ≡ 8 * electrolyte_regions) × ((regions_bytes ≡ 8 * electrolyte_profile) × (electrolyte_bytes ≡ 8 * (electrolyte_profile + 96)))
  pub coefficients : (dfn_count_pos ≡ dfn_coefficients_neg + 16) × (dfn_nodes_neg ≡ dfn_coefficients_pos + 16)
  pub dfn_new : (dfn_params_bytes ≡ 8 * dfn_nodes_neg) × (new_dfn_bytes ≡ 8 * (dfn_v_max + 1))
  pub dfn_arrays : (new_dfn_bytes ≡ 8 * dfn_anode) × ((dfn_cathode ≡ dfn_anode + 512) × ((dfn_electrolyte ≡ dfn_cathode + 512) × (dfn_clock ≡ dfn_electrolyte + 33)))
  pub dfn : dfn_bytes ≡ 8 * (dfn_theta_pos + 1)
  pub dfn_step_lem : (dfn_bytes ≡ 8 * dfn_report) × ((dfn_cutoff ≡ dfn_report + 6) × (dfn_step_bytes ≡ 8 * (dfn_newton + 1)))
  pub dfn_run : (dfn_bytes ≡ 8 * dfn_ending) × (dfn_run_bytes ≡ 8 * (dfn_ending + 2))

pub layout : Layout
layout = record {
  sheet = (refl, refl);
  particle = refl;
  anode = refl;
  anode_parts = (refl, refl);
  cathode = refl;
  cathode_parts = (refl, refl);
  clock = refl;
  cell = refl;
  cell_step_lem = (refl, (refl, refl));
  cell_run = (refl, refl);
  new_cell_lem = (refl, refl);
  found = (refl, refl);
  phase = (refl, (refl, refl));
  phases = refl;
  electrolyte = (refl, (refl, refl));
  coefficients = (refl, refl);
  dfn_new = (refl, refl);
  dfn_arrays = (refl, (refl, (refl, refl)));
  dfn = refl;
  dfn_step_lem = (refl, (refl, refl));
  dfn_run = (refl, refl);
}
