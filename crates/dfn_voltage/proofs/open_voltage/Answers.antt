-- `dfn_voltage::open_voltage` meets its contract. Assumes nothing.
use Rattle.dfn_voltage.specs.Voltage.{open_of}
use Rattle.dfn_voltage.proofs.open_voltage.Goals as goal

pub returns : goal.returns
unfolding open_of
returns c =
    rw (c.ocv-u_pos.ensures, c.clamp-2.ensures, c.ocv-u_neg.ensures, c.clamp.ensures)
