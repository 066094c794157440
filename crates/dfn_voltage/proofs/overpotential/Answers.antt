-- `dfn_voltage::overpotential` meets its contract. Assumes nothing.
use Rattle.dfn_voltage.specs.Voltage.{over_of}
use Rattle.dfn_voltage.proofs.overpotential.Goals as goal

pub returns-then-i0 : goal.returns-then-i0
unfolding over_of
returns-then-i0 c =
    rw (c.if-i0.true, c.asinh.ensures)

pub returns : goal.returns
unfolding over_of
returns c =
    rw c.if-i0.false
