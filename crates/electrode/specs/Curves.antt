-- The open-circuit potential of a sheet's chemistry, and its slope. Definitions only.
use Rattle.std.specs.Prelude.{Float}
use Rattle.curves.specs.Curves.{chemistry_curve, chemistry_slope}
use Rattle.electrode.specs.declared.ElectrodeParams.{ElectrodeParams}

unfoldable pub open_circuit : ElectrodeParams → Float → Float
open_circuit p theta = chemistry_curve p.electrode_type theta

unfoldable pub open_circuit_slope : ElectrodeParams → Float → Float
open_circuit_slope p theta = chemistry_slope p.electrode_type theta
