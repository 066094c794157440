-- `dfn_voltage::side_overpotential` meets its contract. Assumes nothing.
use Rattle.dfn_voltage.specs.Voltage.{side_of}
use Rattle.dfn_voltage.proofs.side_overpotential.Goals as goal

pub returns : goal.returns
unfolding side_of
returns c =
    rw (c.overpotential.ensures, c.specific_area.ensures, c.exchange_current-i0.ensures)
