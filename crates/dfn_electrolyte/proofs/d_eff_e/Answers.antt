-- `dfn_electrolyte::d_eff_e` meets its contract. Assumes nothing.
use Rattle.dfn_electrolyte.proofs.d_eff_e.Goals as goal

pub returns : goal.returns
returns c =
    rw c.exp.ensures
