-- The numbers that a run starts from, and the records that a run's numbers make. Definitions only.
use Rattle.std.specs.Prelude.{ℕ, zero, suc, ◌+◌, List, [], ◌∷◌, ◌++◌, slice_index_or, slice_set, Float}
use Rattle.std.specs.Float.{nan}
use Rattle.binary64.specs.Operators.{count}
use Rattle.binary64.specs.Literals.{«0·0002», «3·0», «4·2», «5·0», «8·314», «10·0», «11·0», «298·15», «3600·0», «96485·0»}
use Rattle.min_max.specs.Count.{ceil_of}
use Rattle.electrode.specs.declared.ElectrodeParams.{ElectrodeParams}
use Rattle.electrode.specs.Numbers.{sheet_numbers, sheet_of}
use Rattle.electrode.specs.Sheet.{graphite_anode}
use Rattle.kinetics.specs.declared.SpmConfig.{SpmConfig}

-- a sheet: its chemistry, then its ten numbers
abbrev pub sheet_values : ElectrodeParams → List Float
sheet_values p = count p.electrode_type ∷ sheet_numbers p

-- a graphite anode with the cathode q: 5 A, a row each 10 s, 298.15 K, 3,600 s; 11 nodes, down to 3 V, up to 4.2 V, and the constants
unfoldable pub ready_with : ElectrodeParams → List Float
ready_with q =
    («5·0» ∷ «10·0» ∷ «298·15» ∷ «3600·0» ∷ «11·0» ∷ «3·0» ∷ «4·2» ∷ «96485·0» ∷ «8·314» ∷ «0·0002» ∷ []) ++ (sheet_values graphite_anode ++ sheet_values q)

-- the first k numbers of x, put from a place on
unfoldable pub put_by : ℕ → ℕ → List Float → List Float → List Float
put_by zero base x v = v
put_by (suc k) base x v = slice_set (put_by k base x v) (base + k) (slice_index_or x k nan)

-- a sheet, put from a place on
unfoldable pub with_sheet : List Float → ℕ → ElectrodeParams → List Float
with_sheet v base p = put_by 10 (base + 1) (sheet_numbers p) (slice_set v base (count p.electrode_type))

-- the ten numbers from a place on
unfoldable pub ten_at : List Float → ℕ → List Float
ten_at v base =
    (slice_index_or v base nan ∷
    slice_index_or v (base + 1) nan ∷
    slice_index_or v (base + 2) nan ∷
    slice_index_or v (base + 3) nan ∷
    slice_index_or v (base + 4) nan ∷
    slice_index_or v (base + 5) nan ∷
    slice_index_or v (base + 6) nan ∷
    slice_index_or v (base + 7) nan ∷
    slice_index_or v (base + 8) nan ∷
    slice_index_or v (base + 9) nan ∷ [])

-- the sheet whose chemistry is at a place
unfoldable pub sheet_at : List Float → ℕ → ElectrodeParams
sheet_at v base = sheet_of (ceil_of (slice_index_or v base nan)) (ten_at v (base + 1))

unfoldable pub config_at : List Float → SpmConfig
config_at v = record {
  n_nodes = ceil_of (slice_index_or v 4 nan);
  v_min = slice_index_or v 5 nan;
  v_max = slice_index_or v 6 nan;
  faraday = slice_index_or v 7 nan;
  r_gas = slice_index_or v 8 nan;
  r_electrolyte_ohm_m2 = slice_index_or v 9 nan;
}
