-- The range of each number: both ends are in it. Definitions only.
use Rattle.std.specs.Prelude.{ℕ, Bool, ◌&&◌, ◌||◌, List, [], ◌∷◌, ◌==◌, slice_index_or, Float}
use Rattle.std.specs.Float.Ieee.{le, neg, eq}
use Rattle.std.specs.Float.{nan}
use Rattle.binary64.specs.Operators.{f64, count}
use Rattle.binary64.specs.Literals.{«0·0», «5e-324», «1e-20», «1e-16», «1e-8», «1e-7», «1e-6», «0·001», «0·01», «1·0», «3·0», «8·0», «9·0», «10·0», «64·0», «200·0», «400·0», «10000·0», «86400·0», «90000·0», «100000·0», «131072·0», «1e6»}
use Rattle.min_max.specs.Count.{ceil_of}
use Rattle.setting_table.specs.Names.{anode, cathode, row_of}

-- an interval is above 0: the least number above it is its low end; the time limit is any number, so its ends are the largest ones
unfoldable pub low_ends : List Float
low_ends =
    (
    neg «1e6» ∷  -- current -1e6
    «5e-324» ∷  -- dt 5e-324
    «200·0» ∷  -- temperature 200
    neg (f64 0x7fef_ffff_ffff_ffff) ∷  -- time -1.7976931348623157e308
    «3·0» ∷  -- n_nodes 3
    neg «10·0» ∷  -- v_min -10
    neg «10·0» ∷  -- v_max -10
    «90000·0» ∷  -- faraday 9e4
    «8·0» ∷  -- r_gas 8
    «0·0» ∷  -- resistance 0
    «1·0» ∷  -- chemistry 1
    «1e-8» ∷  -- r_particle 1e-8
    «1e-20» ∷  -- d_s_ref 1e-20
    «1·0» ∷  -- c_s_max 1
    «0·0» ∷  -- theta_init 0
    «1e-7» ∷  -- thickness 1e-7
    «0·01» ∷  -- epsilon_s 0.01
    «1e-6» ∷  -- area 1e-6
    «0·0» ∷  -- e_a_ds 0
    «1e-16» ∷  -- k_bv 1e-16
    «200·0» ∷  -- t_ref 200
    [])

unfoldable pub high_ends : List Float
high_ends =
    (
    «1e6» ∷  -- current 1e6
    «86400·0» ∷  -- dt 86400
    «400·0» ∷  -- temperature 400
    f64 0x7fef_ffff_ffff_ffff ∷  -- time 1.7976931348623157e308
    «64·0» ∷  -- n_nodes 64
    «10·0» ∷  -- v_min 10
    «10·0» ∷  -- v_max 10
    «100000·0» ∷  -- faraday 1e5
    «9·0» ∷  -- r_gas 9
    «1·0» ∷  -- resistance 1
    «3·0» ∷  -- chemistry 3
    «0·001» ∷  -- r_particle 1e-3
    «1e-8» ∷  -- d_s_ref 1e-8
    «131072·0» ∷  -- c_s_max 131072
    «1·0» ∷  -- theta_init 1
    «0·01» ∷  -- thickness 1e-2
    «1·0» ∷  -- epsilon_s 1
    «10000·0» ∷  -- area 1e4
    «100000·0» ∷  -- e_a_ds 1e5
    «1·0» ∷  -- k_bv 1
    «400·0» ∷  -- t_ref 400
    [])

unfoldable pub low_of : ℕ → Float
low_of k = slice_index_or low_ends (row_of k) nan

unfoldable pub high_of : ℕ → Float
high_of k = slice_index_or high_ends (row_of k) nan

-- whether a number is in the range of its place
unfoldable pub in_place : ℕ → Float → Bool
in_place k x = le (low_of k) x && le x (high_of k)

-- n_nodes and both chemistries are whole numbers
abbrev pub is_count : ℕ → Bool
is_count k = k == 4 || k == anode || k == cathode

unfoldable pub is_whole : Float → Bool
is_whole x = eq (count (ceil_of x)) x
