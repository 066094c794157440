-- `dfn_solid::surface_node` meets its contract. Assumes nothing.
use Rattle.dfn_solid.specs.Solid.{surface_with}
use Rattle.dfn_solid.proofs.surface_node.Goals as goal

pub returns : goal.returns
unfolding surface_with
returns c =
    rw c.max.ensures
