-- `dfn_solid::inner_node` meets its contract. Assumes nothing.
use Rattle.dfn_solid.specs.Solid.{inner_with}
use Rattle.dfn_solid.proofs.inner_node.Goals as goal

pub returns : goal.returns
unfolding inner_with
returns c =
    let max = c.max-down in
    let nearest-u64-to-f64 = c.nearest_u64_to_f64 in
    rw (max.ensures, nearest-u64-to-f64.ensures)
