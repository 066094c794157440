-- `cycle_run::finished` meets its contract. Assumes nothing.
use Rattle.runs.specs.Endings.{ending_is}
use Rattle.cycle_run.specs.Counters.{finished_at}
use Rattle.cycle_run.proofs.finished.Goals as goal

pub returns : goal.returns
unfolding finished_at
returns c =
    rw (ending_is c.args.s.ending)
