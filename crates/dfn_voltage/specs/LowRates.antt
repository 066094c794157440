-- The voltage with H by the logarithm at every argument, and where it is the voltage: wherever neither electrode's argument is below 2 ^ -10 in size. Assumes nothing.
use Rattle.std.specs.Prelude.{◌≡◌, false, Float}
use Rattle.std.proofs.Common.{ap, ap₂}
use Rattle.std.specs.Float.Ieee.{neg}
use Rattle.binary64.specs.Operators.{◌⊗◌, ◌⊘◌}
use Rattle.binary64.specs.Literals.{«2·0»}
use Rattle.elementary.specs.Asinh.{asinh_log, is_small}
use Rattle.elementary.specs.AsinhForms.{asinh_log_lem}
use Rattle.dfn_parameters.specs.Sides.{anode_of, cathode_of}
use Rattle.dfn_parameters.specs.declared.DfnParams.{DfnParams}
use Rattle.dfn_parameters.specs.declared.Side.{Side}
use Rattle.dfn_voltage.specs.Voltage.{over_with, over_of, side_exchange, side_flux, side_of, thermal_voltage, voltage_with, voltage_of}

-- what H is taken of at an electrode: stoichiometry of its surface, electrolyte in the middle of the anode, area, current
abbrev pub side_argument : Side → Float → Float → Float → Float → Float
side_argument s theta mid area current = side_flux s area current ⊘ («2·0» ⊗ side_exchange s theta mid)

abbrev pub side_by_log : Float → Side → Float → Float → Float → Float → Float
side_by_log rtf s theta mid area current = over_with rtf (side_exchange s theta mid) (asinh_log (side_argument s theta mid area current))

side_kept : (rtf : Float) (s : Side) (theta mid area current : Float) → is_small (side_argument s theta mid area current) ≡ false → side_of rtf s theta mid area current ≡ side_by_log rtf s theta mid area current
unfolding side_of over_of
side_kept rtf s theta mid area current h = ap (over_with rtf (side_exchange s theta mid)) (asinh_log_lem (side_argument s theta mid area current) h)

abbrev pub voltage_by_log : DfnParams → Float → Float → Float → Float → Float
voltage_by_log p tneg tpos mid current =
    voltage_with p tneg tpos mid current (side_by_log (thermal_voltage p) (anode_of p) tneg mid p.area (neg current))
    (side_by_log (thermal_voltage p) (cathode_of p) tpos mid p.area current)

-- at neither electrode is what H is taken of below 2 ^ -10 in size
pub record NoSmallArgument (p : DfnParams) (tneg tpos mid current : Float) : Type 0 where
  pub anode : is_small (side_argument (anode_of p) tneg mid p.area (neg current)) ≡ false
  pub cathode : is_small (side_argument (cathode_of p) tpos mid p.area current) ≡ false

pub voltage_kept : (p : DfnParams) (tneg tpos mid current : Float) → NoSmallArgument p tneg tpos mid current → voltage_of p tneg tpos mid current ≡ voltage_by_log p tneg tpos mid current
unfolding voltage_of
voltage_kept p tneg tpos mid current h =
    ap₂ (voltage_with p tneg tpos mid current) (side_kept (thermal_voltage p) (anode_of p) tneg mid p.area (neg current) h.anode)
    (side_kept (thermal_voltage p) (cathode_of p) tpos mid p.area current h.cathode)
