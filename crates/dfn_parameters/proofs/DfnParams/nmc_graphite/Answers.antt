-- `dfn_parameters::DfnParams::nmc_graphite` meets its contract. Assumes nothing.
use mathlib.Core.Path.{refl}
use Rattle.dfn_parameters.specs.Ready.{nmc_graphite}
use Rattle.dfn_parameters.proofs.DfnParams.nmc_graphite.Goals as goal

pub returns : goal.returns
unfolding nmc_graphite
returns c =
    refl
