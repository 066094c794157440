-- The terminal voltage. Definitions only.
use Rattle.std.specs.Prelude.{cond, Float}
use Rattle.std.specs.Float.Ieee.{lt, neg}
use Rattle.binary64.specs.Operators.{◌⊕◌, ◌⊖◌, ◌⊗◌, ◌⊘◌}
use Rattle.binary64.specs.Literals.{«0·0», «1e-30», «1e-9», «0·001», «0·999», «2·0», «5·0», «8·314»}
use Rattle.square_root.specs.Root.{sqrt_of}
use Rattle.elementary.specs.Exp.{one}
use Rattle.elementary.specs.Ln.{ln_of}
use Rattle.elementary.specs.Asinh.{asinh_of}
use Rattle.elementary.specs.Power.{powf_of}
use Rattle.min_max.specs.MinMax.{clamp_of, max_of}
use Rattle.dfn_parameters.specs.Sides.{anode_of, cathode_of, area_of, faraday, horner}
use Rattle.dfn_parameters.specs.declared.DfnParams.{DfnParams}
use Rattle.dfn_parameters.specs.declared.Side.{Side}

-- ---- resistance
-- l / max(kappa0 * ratio * eps^brugg, 1e-9)
abbrev pub layer_of : DfnParams → Float → Float → Float → Float
layer_of p l eps ratio = l ⊘ max_of (p.kappa0 ⊗ ratio ⊗ powf_of eps p.brugg) «1e-9»

abbrev resistance_at : DfnParams → Float → Float
resistance_at p ratio =
    (layer_of p p.l_neg p.eps_e_elec ratio ⊕ layer_of p p.l_sep p.eps_e_sep ratio ⊕ layer_of p p.l_pos p.eps_e_elec ratio)
    ⊘ max_of p.area «1e-9»

-- at max(c / c_e0, 1e-3)
unfoldable pub resistance_of : DfnParams → Float → Float
resistance_of p mid = resistance_at p (max_of (mid ⊘ p.c_e0) «0·001»)

-- ---- overpotentials
-- k * FARADAY * sqrt(c_e) * sqrt(c) * max(sqrt(c_max - c), 0)
abbrev pub exchange_of : Float → Float → Float → Float → Float
exchange_of k mid c cmax = k ⊗ faraday ⊗ sqrt_of mid ⊗ sqrt_of c ⊗ max_of (sqrt_of (cmax ⊖ c)) «0·0»

-- 2 * rt_f * h, +0 where i0 is not above 1e-30
abbrev pub over_with : Float → Float → Float → Float
over_with rtf i0 h = cond (lt «1e-30» i0) («2·0» ⊗ rtf ⊗ h) «0·0»

-- with h = asinh(j / (2 * i0))
unfoldable pub over_of : Float → Float → Float → Float
over_of rtf i0 j = over_with rtf i0 (asinh_of (j ⊘ («2·0» ⊗ i0)))

-- i0 at c = theta * c_max
abbrev pub side_exchange : Side → Float → Float → Float
side_exchange s theta mid = exchange_of s.k mid (theta ⊗ s.c_s_max) s.c_s_max

-- current / (a * l * area), which has no factor of Faraday
abbrev pub side_flux : Side → Float → Float → Float
side_flux s area current = current ⊘ (area_of s ⊗ s.l ⊗ area)

unfoldable pub side_of : Float → Side → Float → Float → Float → Float → Float
side_of rtf s theta mid area current = over_of rtf (side_exchange s theta mid) (side_flux s area current)

-- ---- open circuit
abbrev clamped : Float → Float
clamped theta = clamp_of theta «0·001» «0·999»

unfoldable pub open_of : DfnParams → Float → Float → Float
open_of p tneg tpos =
    horner p.ocv_pos_coeffs (clamped tpos) p.ocv_pos_count ⊖ horner p.ocv_neg_coeffs (clamped tneg) p.ocv_neg_count

-- ---- the terminal voltage
-- 2 * rt_f * (1 - t_plus) * ln(max(c / c_e0, 1e-9))
abbrev concentration_of : DfnParams → Float → Float → Float
concentration_of p rtf mid = «2·0» ⊗ rtf ⊗ (one ⊖ p.t_plus) ⊗ ln_of (max_of (mid ⊘ p.c_e0) «1e-9»)

-- rt_f = R_GAS * T / FARADAY
abbrev pub thermal_voltage : DfnParams → Float
thermal_voltage p = «8·314» ⊗ p.temperature_k ⊘ faraday

-- ocv - I * r_ion - eta_neg + eta_pos + eta_conc, held to 0 to 5
abbrev pub voltage_with : DfnParams → Float → Float → Float → Float → Float → Float → Float
voltage_with p tneg tpos mid current eta_neg eta_pos =
    clamp_of
    (open_of p tneg tpos ⊖ current ⊗ resistance_of p mid ⊖ eta_neg ⊕ eta_pos ⊕ concentration_of p (thermal_voltage p) mid)
    «0·0» «5·0»

unfoldable pub voltage_of : DfnParams → Float → Float → Float → Float → Float
voltage_of p tneg tpos mid current =
    voltage_with p tneg tpos mid current (side_of (thermal_voltage p) (anode_of p) tneg mid p.area (neg current))
    (side_of (thermal_voltage p) (cathode_of p) tpos mid p.area current)
