-- `dfn_electrolyte::region_of` meets its contract. Assumes nothing.
use Rattle.dfn_electrolyte.proofs.region_of.Goals as goal

pub returns : goal.returns
returns c =
    rw (c.specific_area.ensures, c.nearest_u64_to_f64.ensures)
