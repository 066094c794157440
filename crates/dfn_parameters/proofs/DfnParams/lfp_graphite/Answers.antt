-- `dfn_parameters::DfnParams::lfp_graphite` meets its contract. Assumes nothing.
use Rattle.dfn_parameters.specs.Ready.{nmc_graphite, lfp_graphite}
use Rattle.dfn_parameters.proofs.DfnParams.lfp_graphite.Goals as goal

pub returns : goal.returns
unfolding nmc_graphite lfp_graphite
returns c =
    rw c.nmc_graphite.ensures
