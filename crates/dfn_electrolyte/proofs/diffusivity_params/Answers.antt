-- `dfn_electrolyte::salt_of` meets its contract. Assumes nothing.
use Rattle.dfn_electrolyte.proofs.diffusivity_params.Goals as goal

pub returns : goal.returns
returns c =
    rw c.powf.ensures
