-- `dfn_voltage::layer` meets its contract. Assumes nothing.
use Rattle.dfn_voltage.proofs.layer.Goals as goal

pub returns : goal.returns
returns c =
    rw (c.max.ensures, c.powf.ensures)
