-- `dfn_electrolyte::update_electrolyte` meets its contract. Assumes nothing.
use Rattle.dfn_electrolyte.specs.Electrolyte.{electrolyte_after}
use Rattle.std.proofs.Common.{rules}
use Rattle.dfn_electrolyte.proofs.update_electrolyte.Goals as goal

pub nodes-requires : goal.nodes-requires
nodes-requires c =
    rw (c.region_of-neg.ensures, c.region_of-pos.ensures) (search rules)

pub returns : goal.returns
unfolding electrolyte_after
returns c =
    let diffusivities = c.diffusivities-d in
    let diffusivity-params = c.diffusivity_params in
    let region-of2 = c.region_of-pos in
    let pore-flux2 = c.pore_flux-2 in
    let region-of = c.region_of-neg in
    let pore-flux = c.pore_flux in
    let cathode = c.cathode-cathode in
    let anode = c.anode-anode in
    rw (
      c.nodes.ensures,
      diffusivities.ensures,
      diffusivity-params.ensures,
      region-of2.ensures,
      region-of.ensures,
      pore-flux2.ensures,
      pore-flux.ensures,
      cathode.ensures,
      anode.ensures,
    )
