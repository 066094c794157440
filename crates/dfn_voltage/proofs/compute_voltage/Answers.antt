-- `dfn_voltage::compute_voltage` meets its contract. Assumes nothing.
use Rattle.dfn_voltage.specs.Voltage.{voltage_of}
use Rattle.dfn_voltage.proofs.compute_voltage.Goals as goal

pub returns : goal.returns
unfolding voltage_of
returns c =
    let side-overpotential2 = c.side_overpotential-eta_pos in
    let cathode = c.cathode in
    let side-overpotential = c.side_overpotential-eta_neg in
    let anode = c.anode in
    let ln = c.ln in
    let max = c.max in
    let resistance = c.resistance-r_ion in
    let open-voltage = c.open_voltage-ocv in
    rw (
      c.clamp.ensures,
      side-overpotential2.ensures,
      cathode.ensures,
      side-overpotential.ensures,
      anode.ensures,
      ln.ensures,
      max.ensures,
      resistance.ensures,
      open-voltage.ensures,
    )
