-- `discharge_run::simulate_discharge` meets its contract: a run that is refused changes nothing, any other makes its turns. Assumes nothing.
use Rattle.std.proofs.Common.{sym, ap, arith}
use Rattle.std.proofs.Math.Dec.{eqb-suc-zero}
use Rattle.runs.specs.LowestLaws.{summary_none}
use Rattle.discharge_run.specs.States.{RunState}
use Rattle.discharge_run.specs.Discharge.{started, discharged, discharged_rows, discharged_lowest}
use Rattle.discharge_run.specs.Laws.{run_groups}
use Rattle.discharge_run.proofs.simulate_discharge.Goals as goal

pub returns-in-Err : goal.returns-in-Err
unfolding discharged discharged_rows discharged_lowest
returns-in-Err c =
    let e = c.in-Err.ensures in
    record { result = rw (← e, eqb-suc-zero); rows = rw (← e, eqb-suc-zero); lowest = rw (← e, eqb-suc-zero) (sym (summary_none _ _)) }

pub run_rows-requires : goal.run_rows-requires
unfolding started
run_rows-requires c = (
  ap (λ (r : RunState). r.rows) c.start.ensures,
  (omega arith, (omega arith, run_groups _ _ _ (sym c.in_default.ensures))),
)

pub returns : goal.returns
unfolding discharged discharged_rows discharged_lowest
returns c =
    let r = c.run_rows.ensures in
    let e = c.in_default.ensures in
    let s = c.start.ensures in
    record { result = rw (← e, ← s) r.result; rows = rw (← e, ← s) r.rows; lowest = rw (← e, ← s) r.lowest }
