-- `dfn_solid::centre_node` meets its contract. Assumes nothing.
use Rattle.std.proofs.Common.{eq-eqb, ne_eqb}
use Rattle.dfn_solid.specs.Solid.{centre_with}
use Rattle.dfn_solid.proofs.centre_node.Goals as goal

pub returns-then-v-eq2 : goal.returns-then-v-eq2
unfolding centre_with
returns-then-v-eq2 c =
    rw (eq-eqb _ _ c.if-v-eq2.true)

pub returns : goal.returns
unfolding centre_with
returns c =
    rw (ne_eqb _ _ c.if-v-eq2.false, c.inner_node.ensures)
