-- The ranges of the names are those of the records' own tests. Assumes nothing.
use Rattle.std.specs.Prelude.{◌≡◌, ℕ, suc, Bool, true, false, cond, List, [], ◌∷◌, refl, Float}
use Rattle.electrode.specs.declared.ElectrodeParams.{ElectrodeParams}
use Rattle.electrode.specs.Numbers.{sheet_numbers}
use Rattle.electrode.specs.Sheet.{sheet_rows}
use Rattle.kinetics.specs.declared.SpmConfig.{SpmConfig}
use Rattle.kinetics.specs.Kinetics.{config_rows}
use Rattle.refusal.specs.Ranges.{Row, row, in_range, load_fits_of, temperature_fits}
use Rattle.setting_table.specs.Names.{anode, cathode}
use Rattle.setting_table.specs.Ranges.{low_of, high_of, low_ends, high_ends}

-- a number with the range of the name at a place
abbrev pub place_row : ℕ → Float → Row
place_row k x = row x (low_of k) (high_of k)

-- numbers with the ranges of the names from a place on
unfoldable pub place_rows : ℕ → List Float → List Row
place_rows k [] = []
place_rows k (x ∷ xs) = place_row k x ∷ place_rows (suc k) xs

-- of both electrodes
pub sheet_ranges : (of_cathode : Bool) (p : ElectrodeParams) → sheet_rows p ≡ place_rows (suc (cond of_cathode cathode anode)) (sheet_numbers p)
unfolding place_rows low_of high_of low_ends high_ends
sheet_ranges true p = refl
sheet_ranges false p = refl

pub config_ranges : (s : SpmConfig) → config_rows s ≡ place_rows 5 (s.v_min ∷ s.v_max ∷ s.faraday ∷ s.r_gas ∷ s.r_electrolyte_ohm_m2 ∷ [])
unfolding place_rows low_of high_of low_ends high_ends
config_ranges s = refl

-- current and temperature
pub current_range : (x : Float) → load_fits_of x (high_of 0) ≡ in_range x (low_of 0) (high_of 0)
unfolding low_of high_of low_ends high_ends
current_range x = refl

pub temperature_range : (x : Float) → temperature_fits x ≡ in_range x (low_of 2) (high_of 2)
unfolding low_of high_of low_ends high_ends
temperature_range x = refl
