-- `dfn_calls::dfn_step` meets its contract. Assumes nothing.
use Rattle.std.proofs.Common.{refl, arith, rules, Ok, Err}
use Rattle.dfn.specs.Answers.{reported_by}
use Rattle.dfn.specs.Step.{no_report}
use Rattle.dfn_calls.proofs.Cells.{step_taken, step_left}
use Rattle.dfn_calls.proofs.dfn_step.Goals as goal

pub returns-in_err-r : goal.returns-in_err-r
returns-in_err-r c =
    let a = c.args in
    let left = step_left a.cell.now a.answer.now a.current_a a.dt_s c.params_at-p.result c.config_at-g.result c.read_f64-t.result _ _ _
    c.params_at-p.ensures c.config_at-g.ensures c.read_f64-t.ensures c.read_places.ensures c.read_places-2.ensures c.read_places-3.ensures
    (reported_by no_report (Err c.in_err-r.field-0.0)) _ _ _ c.in_err-r.ensures (λ z. omega arith) in
    record { number = rw (← left.0) (search rules); written = left.1 }

pub returns : goal.returns
returns c =
    let a = c.args in
    let taken = step_taken a.cell.now a.answer.now a.current_a a.dt_s c.params_at-p.result c.config_at-g.result c.read_f64-t.result _ _ _
    c.params_at-p.ensures c.config_at-g.ensures c.read_f64-t.ensures c.read_places.ensures c.read_places-2.ensures c.read_places-3.ensures
    (reported_by no_report (Ok c.in_ok-r.r)) _ _ _ c.in_ok-r.ensures _ refl c.put_stepped.ensures in
    record { number = taken.0; written = taken.1 }
