-- `cycle_run::check_cycle` meets its contract. Assumes nothing.
use Rattle.std.proofs.Common.{rules}
use Rattle.std.proofs.Math.Dec.{eqb-suc-zero}
use Rattle.refusal.specs.Numbers.{first_refusal}
use Rattle.cycle_run.specs.Cycle.{cycle_refusal}
use Rattle.cycle_run.proofs.check_cycle.Goals as goal

pub returns-in_err-check_counts : goal.returns-in_err-check_counts
unfolding cycle_refusal first_refusal
returns-in_err-check_counts c =
    rw (← c.in_err-check_counts.ensures, eqb-suc-zero) (search rules)
