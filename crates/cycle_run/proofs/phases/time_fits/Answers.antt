-- `cycle_run::phases::time_fits` meets its contract. Assumes nothing.
use mathlib.Core.Path.{sym, ap}
use Rattle.cycle_run.specs.Phases.{phase_time_fits}
use Rattle.cycle_run.proofs.phases.time_fits.Goals as goal

pub returns-in-Rest : goal.returns-in-Rest
returns-in-Rest c =
    ap phase_time_fits (sym c.in-Rest.is)
