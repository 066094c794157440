-- `cycle_run::phases::current_of` meets its contract. Assumes nothing.
use mathlib.Core.Path.{sym, ap}
use Rattle.cycle_run.specs.Phases.{current_of}
use Rattle.cycle_run.proofs.phases.current_of.Goals as goal

pub returns-in-Charge : goal.returns-in-Charge
returns-in-Charge c =
    ap current_of (sym c.in-Charge.is)
