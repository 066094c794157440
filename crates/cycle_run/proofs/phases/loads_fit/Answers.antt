-- `cycle_run::phases::loads_fit` meets its contract. Assumes nothing.
use Rattle.std.proofs.Common.{◌≡◌, true, false, rules, tests}
use Rattle.std.specs.Float.Ieee.{nan}
use Rattle.std.proofs.lemmas.Iterator.{cases_from_all, YieldsList-from_slice, YieldsList-from_take}
use Rattle.cycle_run.specs.declared.phases.Phase.TheVariants.{Charge}
use Rattle.cycle_run.specs.Phases.{loads_fit, phase_load_fits}
use Rattle.cycle_run.proofs.Places.{tested}
use Rattle.cycle_run.proofs.phases.loads_fit.Goals as goal

pub returns : goal.returns
unfolding loads_fit
returns c =
    let a = c.args in
    tested phase_load_fits a.phases (Charge nan) a.count (search rules) _
    (cases_from_all _ _ _ (λ p. phase_load_fits p ≡ true) (λ p. phase_load_fits p ≡ false) c.all.ensures.ran (YieldsList-from_take a.count (YieldsList-from_slice a.phases cc) c.take.ensures.count) (λ x q k. search (rules, tests))
    (λ x q k. search (rules, tests)))
