-- `dfn_parameters::DfnConfig::limits_fit` meets its contract. Assumes nothing.
use Rattle.refusal.specs.EqualParts.{◌both◌}
use Rattle.dfn_parameters.proofs.DfnConfig.limits_fit.Goals as goal

pub returns : goal.returns
returns c =
    c.within.ensures
    both c.within-2.ensures
