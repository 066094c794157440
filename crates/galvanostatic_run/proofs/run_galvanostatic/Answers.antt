-- `galvanostatic_run::run_galvanostatic` meets its contract: a run that is refused changes nothing, any other makes its turns. Assumes nothing.
use Rattle.std.proofs.Common.{sym, ap, arith}
use Rattle.std.proofs.Math.Dec.{eqb-suc-zero}
use Rattle.runs.specs.LowestLaws.{summary_none}
use Rattle.galvanostatic_run.specs.States.{RunState}
use Rattle.galvanostatic_run.specs.Galvanostatic.{started, over_of, galvanostatic, galvanostatic_rows, galvanostatic_lowest}
use Rattle.galvanostatic_run.specs.Laws.{run_groups}
use Rattle.galvanostatic_run.proofs.run_galvanostatic.Goals as goal

pub returns-in-Err : goal.returns-in-Err
unfolding galvanostatic galvanostatic_rows galvanostatic_lowest
returns-in-Err c =
    let e = c.in-Err.ensures in
    record { answer = rw (← e, eqb-suc-zero); rows = rw (← e, eqb-suc-zero); lowest = rw (← e, eqb-suc-zero) (sym (summary_none _ _)) }

pub run_rows-requires : goal.run_rows-requires
unfolding started
run_rows-requires c = (
  ap over_of c.start.ensures,
  (ap (λ (r : RunState). r.rows) c.start.ensures, (omega arith, (omega arith, run_groups _ _ _ (sym c.in_default.ensures)))),
)

pub returns : goal.returns
unfolding galvanostatic galvanostatic_rows galvanostatic_lowest
returns c =
    let r = c.run_rows.ensures in
    let e = c.in_default.ensures in
    let s = c.start.ensures in
    record { answer = rw (← e, ← s) r.answer; rows = rw (← e, ← s) r.rows; lowest = rw (← e, ← s) r.lowest }
