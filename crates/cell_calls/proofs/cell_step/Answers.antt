-- `cell_calls::cell_step` meets its contract. Assumes nothing.
use Rattle.std.proofs.Common.{refl, arith, rules, Ok, Err}
use Rattle.solver_step.specs.Answers.{reported_by}
use Rattle.cell_calls.proofs.Particles.{cell_taken_lem, cell_left}
use Rattle.cell_calls.proofs.cell_step.Goals as goal

pub returns-in_err-r : goal.returns-in_err-r
returns-in_err-r c =
    let a = c.args in
    let kept = cell_left a.cell.now a.answer.now a.current_a a.dt a.temp_k
    c.parts_at-q.result _ _ c.parts_at-q.ensures c.read_places.ensures c.read_places-2.ensures (reported_by (Err c.in_err-r.field-0.0)) _ _ c.in_err-r.ensures
    (λ z. omega arith) in
    record { number = rw (← kept.0) (search rules); written = kept.1 }

pub returns : goal.returns
returns c =
    let a = c.args in
    let taken = cell_taken_lem a.cell.now a.answer.now a.current_a a.dt a.temp_k
    c.parts_at-q.result _ _ c.parts_at-q.ensures c.read_places.ensures c.read_places-2.ensures (reported_by (Ok c.in_ok-r.r)) _ _ c.in_ok-r.ensures
    _ refl c.put_stepped.ensures in
    record { number = taken.0; written = taken.1 }
