-- `dfn_parameters::Side::pore_flux` meets its contract. Assumes nothing.
use Rattle.dfn_parameters.proofs.Side.pore_flux.Goals as goal

pub returns : goal.returns
returns c =
    rw c.specific_area.ensures
