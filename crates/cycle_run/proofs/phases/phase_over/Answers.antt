-- `cycle_run::phases::phase_over` meets its contract. Assumes nothing.
use mathlib.Core.Path.{sym, ap}
use Rattle.cycle_run.specs.declared.phases.Phase.{Phase}
use Rattle.cycle_run.specs.Phases.{phase_over}
use Rattle.cycle_run.proofs.phases.phase_over.Goals as goal

pub returns-in-Rest : goal.returns-in-Rest
returns-in-Rest c =
    ap (λ (p : Phase). phase_over p c.args.cutoff c.args.clock) (sym c.in-Rest.is)
