-- `dfn_parameters::DfnConfig::grid_fits` meets its contract. Assumes nothing.
use Rattle.refusal.specs.EqualParts.{◌both◌}
use Rattle.dfn_parameters.proofs.DfnConfig.grid_fits.Goals as goal

pub returns : goal.returns
returns c =
    c.count_within.ensures
    both c.count_within-2.ensures
    both c.count_within-3.ensures
