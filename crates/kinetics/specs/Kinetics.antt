-- The kinetics of a single-particle cell, from solver.rs. Definitions only.
use Rattle.std.specs.Prelude.{Bool, true, cond, List, [], ◌∷◌, Float}
use Rattle.std.specs.Float.Ieee.{lt, neg}
use Rattle.binary64.specs.Operators.{◌⊕◌, ◌⊖◌, ◌⊗◌, ◌⊘◌}
use Rattle.binary64.specs.Literals.{«0·0», «1e-30», «0·01», «0·99», «1·0», «2·0», «8·0», «9·0», «10·0», «1000·0», «90000·0», «100000·0»}
use Rattle.square_root.specs.Root.{sqrt_of}
use Rattle.min_max.specs.MinMax.{clamp_of}
use Rattle.elementary.specs.Asinh.{asinh_of}
use Rattle.refusal.specs.Ranges.{Row, row, in_ranges}
use Rattle.electrode.specs.declared.ElectrodeParams.{ElectrodeParams}
use Rattle.electrode.specs.Sheet.{specific_area}
use Rattle.particle.specs.declared.ParticleDiffusion.{ParticleDiffusion}
use Rattle.particle.specs.Particle.{surface_theta}
use Rattle.kinetics.specs.declared.SpmConfig.{SpmConfig}

-- each field but the count of nodes with its closed range
abbrev pub config_rows : SpmConfig → List Row
config_rows s =
    -- -10 to 10, in either order
    row s.v_min (neg «10·0») «10·0»
    ∷ row s.v_max (neg «10·0») «10·0»
    ∷ row s.faraday «90000·0» «100000·0»
    ∷ row s.r_gas «8·0» «9·0»
    ∷ row s.r_electrolyte_ohm_m2 «0·0» «1·0»
    ∷ []

abbrev pub config_fits : SpmConfig → Bool
config_fits s = in_ranges true (config_rows s)

-- a_s * L * F
unfoldable pub surface_current : ElectrodeParams → Float → Float
surface_current p faraday = specific_area p ⊗ p.thickness ⊗ faraday

-- k_bv * sqrt(c_ss * (c_s_max - c_ss) * 1000), the surface's stoichiometry clamped to 0.01 to 0.99
unfoldable pub exchange : ParticleDiffusion → Float
exchange p =
    let c_ss = clamp_of (surface_theta p) «0·01» «0·99» ⊗ p.params.c_s_max in
    p.params.k_bv ⊗ sqrt_of (c_ss ⊗ (p.params.c_s_max ⊖ c_ss) ⊗ «1000·0»)

-- j / (2 i0)
abbrev pub overpotential_argument : Float → ParticleDiffusion → Float
overpotential_argument j p = j ⊘ («2·0» ⊗ exchange p)

-- (2 R T / F) h; 0 where i0 is below 1e-30
abbrev pub overpotential_with : SpmConfig → ParticleDiffusion → Float → Float → Float
overpotential_with s p t h = cond (lt (exchange p) «1e-30») «0·0» («2·0» ⊗ s.r_gas ⊗ t ⊘ s.faraday ⊗ h)

-- with h = asinh(j / (2 i0))
unfoldable pub overpotential : SpmConfig → Float → ParticleDiffusion → Float → Float
overpotential s j p t = overpotential_with s p t (asinh_of (overpotential_argument j p))

-- (u_pos + eta_pos) - (u_neg + eta_neg) - v_ohm
abbrev pub terminal_voltage : Float → Float → Float → Float → Float → Float
terminal_voltage u_neg u_pos eta_neg eta_pos v_ohm = (u_pos ⊕ eta_pos) ⊖ (u_neg ⊕ eta_neg) ⊖ v_ohm
