-- `dfn_solid::d_s` meets its contract. Assumes nothing.
use Rattle.dfn_solid.proofs.d_s.Goals as goal

pub returns : goal.returns
returns c =
    rw c.max.ensures
