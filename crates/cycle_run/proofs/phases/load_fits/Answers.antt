-- `cycle_run::phases::load_fits` meets its contract. Assumes nothing.
use mathlib.Core.Path.{sym, ap}
use Rattle.cycle_run.specs.Phases.{phase_load_fits}
use Rattle.cycle_run.proofs.phases.load_fits.Goals as goal

pub returns-in-Charge : goal.returns-in-Charge
returns-in-Charge c =
    ap phase_load_fits (sym c.in-Charge.is)

pub returns-in-Discharge : goal.returns-in-Discharge
returns-in-Discharge c =
    ap phase_load_fits (sym c.in-Discharge.is)
