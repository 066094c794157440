-- The names of the thirty-two numbers that a run is set by, and the place of one: ten of run and config, eleven of each sheet. Definitions only.
use Rattle.std.specs.Prelude.{ℕ, zero, suc, ◌+◌, ◌-◌, ◌*◌, Bool, cond, ◌&&◌, ◌||◌, List, [], ◌∷◌, ◌++◌, length, drop, ◌==◌, nat_eq, nat_le, nat_lt, slice_index}
use Prim.Native.Char.{code}
use Prim.Native.String.{String, [] as empty, ◌∷◌ as ◌before◌}
use Rattle.iterate.specs.Iterate.{all_below}
use Rattle.plain_text.specs.Text.{starts_with}

-- ---- the places: run and config from 0 on, then the anode's sheet, then the cathode's, each with its chemistry first and t_ref last
abbrev pub anode : ℕ
anode = 10

abbrev pub cathode : ℕ
cathode = 21

-- how many there are, and the place of what is no name
abbrev pub none : ℕ
none = 32

-- how many a sheet has
abbrev pub sheet_count : ℕ
sheet_count = 11

-- both sheets have the same rows in a table of names or ranges, which has so many
abbrev pub rows : ℕ
rows = 21

abbrev pub row_of : ℕ → ℕ
row_of k = cond (nat_lt k cathode) k (k - sheet_count)

-- 0 run and config, 1 the anode's sheet, 2 the cathode's
abbrev pub part_of : ℕ → ℕ
part_of k = cond (nat_lt k anode) 0 (cond (nat_lt k cathode) 1 2)

-- ---- the names
-- a text as bytes
unfoldable pub bytes_of : String → List ℕ
bytes_of empty = []
bytes_of (c before s) = code c ∷ bytes_of s

-- twelve bytes for each row, filled up with spaces
abbrev pub run_names : String
run_names = "current     dt          temperature time        n_nodes     v_min       v_max       faraday     r_gas       resistance  "

abbrev pub sheet_names : String
sheet_names = "chemistry   r_particle  d_s_ref     c_s_max     theta_init  thickness   epsilon_s   area        e_a_ds      k_bv        t_ref       "

-- byte j of the name at a place, without the electrode before it
unfoldable pub letter_of : ℕ → ℕ → ℕ
letter_of k j = slice_index (bytes_of run_names ++ bytes_of sheet_names) (row_of k * 12 + j)

-- the byte at a place of a text that is filled up with spaces
abbrev pub padded_at : List ℕ → ℕ → ℕ
padded_at s j = cond (nat_lt j (length s)) (slice_index s j) 32

-- whether a text is the name at a place, without the electrode before it
unfoldable pub is_named : List ℕ → ℕ → Bool
is_named s k = nat_le (length s) 12 && all_below 12 (λ j. nat_eq (padded_at s j) (letter_of k j))

-- the place of a text among the first k names from the place `base` on
unfoldable pub place_by : ℕ → ℕ → List ℕ → ℕ
place_by zero base s = none
place_by (suc k) base s = cond (is_named s (base + k)) (base + k) (place_by k base s)

-- the place of a name
unfoldable pub place_of : List ℕ → ℕ
place_of s =
    cond (starts_with s (bytes_of "anode.")) (place_by sheet_count anode (drop 6 s))
    (cond (starts_with s (bytes_of "cathode.")) (place_by sheet_count cathode (drop 8 s)) (place_by anode 0 s))

-- current and time: the phases of a cycle have the currents, and the last of them ends it
abbrev pub in_phases : ℕ → Bool
in_phases k = k == 0 || k == 3

-- current, dt and time: a load file has a current and an interval in each line, and its last line ends a replay
abbrev pub in_load : ℕ → Bool
in_load k = k == 0 || k == 1 || k == 3
