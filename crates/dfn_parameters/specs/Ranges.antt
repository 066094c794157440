-- The ranges of the parameters and the limits of the grid. Definitions only.
use Rattle.std.specs.Prelude.{ℕ, Bool, true, ◌&&◌, List, [], ◌∷◌, leb, Float}
use Rattle.std.specs.Float.Ieee.{neg}
use Rattle.refusal.specs.Ranges.{in_range, Row, row, in_ranges, count_in_range}
use Rattle.arrays.specs.Places.{places_fit}
use Rattle.dfn_parameters.specs.declared.DfnParams.{DfnParams}
use Rattle.dfn_parameters.specs.declared.DfnConfig.{DfnConfig}
use Rattle.dfn_parameters.specs.declared.Side.{Side}
use Rattle.dfn_parameters.specs.Sides.{anode_of, cathode_of}
use Rattle.binary64.specs.Literals.{«0·0», «1e-20», «1e-16», «1e-8», «1e-7», «1e-6», «0·001», «0·01», «1·0», «4·0», «10·0», «100·0», «200·0», «400·0», «1000·0», «10000·0», «100000·0», «131072·0»}

-- an electrode's seven numbers: thickness 1e-7 to 1e-2, radius 1e-8 to 1e-3, diffusivity 1e-20 to 1e-8, concentration 1 to 131,072, fraction 0.01 to 1,
-- stoichiometry 0 to 1, rate constant 1e-16 to 1
abbrev pub side_rows : Side → List Row
side_rows s =
    row s.l «1e-7» «0·01»
    ∷ row s.r «1e-8» «0·001»
    ∷ row s.d_s_ref «1e-20» «1e-8»
    ∷ row s.c_s_max «1·0» «131072·0»
    ∷ row s.eps «0·01» «1·0»
    ∷ row s.theta_0 «0·0» «1·0»
    ∷ row s.k «1e-16» «1·0»
    ∷ []

abbrev pub side_fits : Side → Bool
side_fits s = in_ranges true (side_rows s)

-- the eleven others
abbrev pub other_rows : DfnParams → List Row
other_rows p =
    -- separator 1e-7 to 1e-2, area 1e-6 to 1e4
    row p.l_sep «1e-7» «0·01»
    ∷ row p.area «1e-6» «10000·0»
    -- electrolyte: c_e0 1 to 1e5, d_e0 1e-16 to 1e-6, gamma_e 0 to 1,000, t_plus 0 to 1, kappa0 1e-6 to 100, fractions 0.01 to 1, exponent 0 to 4
    ∷ row p.c_e0 «1·0» «100000·0»
    ∷ row p.d_e0 «1e-16» «1e-6»
    ∷ row p.gamma_e «0·0» «1000·0»
    ∷ row p.t_plus «0·0» «1·0»
    ∷ row p.kappa0 «1e-6» «100·0»
    ∷ row p.eps_e_elec «0·01» «1·0»
    ∷ row p.eps_e_sep «0·01» «1·0»
    ∷ row p.brugg «0·0» «4·0»
    -- temperature 200 to 400 K
    ∷ row p.temperature_k «200·0» «400·0»
    ∷ []

-- each of the 25 numbers in its closed range
abbrev pub numbers_fit : DfnParams → Bool
numbers_fit p = in_ranges (side_fits (anode_of p) && side_fits (cathode_of p)) (other_rows p)

-- 0 to 16 coefficients, each at most 1,000 in size
unfoldable pub coefficients_fit : List Float → ℕ → Bool
coefficients_fit c n = places_fit (λ x. in_range x (neg «1000·0») «1000·0») c n 16 && leb n 16

unfoldable pub parameters_fit : DfnParams → Bool
parameters_fit p =
    numbers_fit p && coefficients_fit p.ocv_neg_coeffs p.ocv_neg_count && coefficients_fit p.ocv_pos_coeffs p.ocv_pos_count

-- 1 to 16 nodes along an electrode, 2 to 32 along a radius
abbrev pub grid_fits : DfnConfig → Bool
grid_fits g = count_in_range g.n_x_neg 1 16 && count_in_range g.n_x_pos 1 16 && count_in_range g.n_r 2 32

-- -10 to 10 V, in either order
abbrev pub limits_fit : DfnConfig → Bool
limits_fit g =
    in_range g.v_min (neg «10·0») «10·0» && in_range g.v_max (neg «10·0») «10·0»
