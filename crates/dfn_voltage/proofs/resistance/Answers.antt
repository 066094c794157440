-- `dfn_voltage::resistance` meets its contract. Assumes nothing.
use Rattle.dfn_voltage.specs.Voltage.{resistance_of}
use Rattle.dfn_voltage.proofs.resistance.Goals as goal

pub returns : goal.returns
unfolding resistance_of
returns c =
    let layer3 = c.layer-pos in
    let layer2 = c.layer-sep in
    let layer = c.layer-neg in
    let max = c.max-ratio in
    rw (c.max.ensures, layer3.ensures, layer2.ensures, layer.ensures, max.ensures)
