-- `discharge_run::finished` meets its contract. Assumes nothing.
use Rattle.runs.specs.Endings.{ending_is}
use Rattle.discharge_run.specs.Discharge.{finished_run}
use Rattle.discharge_run.proofs.finished.Goals as goal

pub returns : goal.returns
unfolding finished_run
returns c =
    rw (ending_is c.args.s.ending)
