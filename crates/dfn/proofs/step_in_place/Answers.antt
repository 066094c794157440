-- `dfn::step_in_place` meets its contract. Assumes nothing.
use Rattle.std.proofs.Common.{sym, ap, ◌∙◌}
use Rattle.std.proofs.lemmas.Result.{err_from_is_err_and}
use Rattle.refusal.specs.Numbers.{neither_refused}
use Rattle.refusal.specs.EqualParts.{equal_first}
use Rattle.dfn_solid.specs.Answers.{SolidUpdate}
use Rattle.dfn.proofs.Endings.{cell_refused, load_refused, solids_refused, rest_refused, made_step}
use Rattle.dfn.proofs.step_in_place.Goals as goal

pub returns-in_err-fit : goal.returns-in_err-fit
returns-in_err-fit c =
    let p = err_from_is_err_and c.from_residual.result c.from_residual.ensures.1 in
    let a = c.args in
    rw (p.1, p.2) (cell_refused a.p a.g a.time_s a.neg.now a.pos.now a.c_e.now a.current a.dt _ c.in_err-fit.ensures.refused)

pub returns-in_err-check_load : goal.returns-in_err-check_load
returns-in_err-check_load c =
    let r = c.from_residual-in_err-check_load in
    let p = err_from_is_err_and r.result r.ensures.1 in
    let a = c.args in
    rw (p.1, p.2) (load_refused a.p a.g a.time_s a.neg.now a.pos.now a.c_e.now a.current a.dt c.in_ok-fit.ensures.refused _ c.in_err-check_load.ensures)

pub returns-in_err-theta : goal.returns-in_err-theta
returns-in_err-theta c =
    let r = c.from_residual-in_err-theta in
    let p = err_from_is_err_and r.result r.ensures.1 in
    let a = c.args in
    let g = c.in_ok-fit.ensures.same.1 in
    let n = rw (c.particle_params-anode.ensures, c.anode.ensures, c.n_r.ensures, c.get-n_neg.ensures.value, c.n_x_neg.ensures, g) at c.update_solid-neg_moved.ensures in
    let m = rw (c.particle_params-cathode.ensures, c.cathode.ensures, c.n_r-2.ensures, c.get-n_pos.ensures.value, c.n_x_pos.ensures, g) at c.update_solid-pos_moved.ensures in
    let met = equal_first (ap (λ (s : SolidUpdate). s.refusal) n) (ap (λ (s : SolidUpdate). s.refusal) m) in
    rw (p.1, p.2) (solids_refused a.p a.g a.time_s a.neg.now a.pos.now a.c_e.now a.current a.dt c.in_ok-fit.ensures.refused c.in_ok-check_load.ensures _ (c.in_err-theta.ensures.refused ∙ met))

pub returns-in_err-check_outcome : goal.returns-in_err-check_outcome
returns-in_err-check_outcome c =
    let r = c.from_residual-in_err-check_outcome in
    let p = err_from_is_err_and r.result r.ensures.1 in
    let a = c.args in
    let g = c.in_ok-fit.ensures.same.1 in
    let n = rw (c.particle_params-anode.ensures, c.anode.ensures, c.n_r.ensures, c.get-n_neg.ensures.value, c.n_x_neg.ensures, g) at c.update_solid-neg_moved.ensures in
    let m = rw (c.particle_params-cathode.ensures, c.cathode.ensures, c.n_r-2.ensures, c.get-n_pos.ensures.value, c.n_x_pos.ensures, g) at c.update_solid-pos_moved.ensures in
    let met = equal_first (ap (λ (s : SolidUpdate). s.refusal) n) (ap (λ (s : SolidUpdate). s.refusal) m) in
    let none = neither_refused _ _ (sym (c.in_ok-theta.ensures.refused ∙ met)) in
    let neg = c.in_ok-theta.ensures.same.0 ∙ ap (λ (s : SolidUpdate). s.theta) n in
    let pos = c.in_ok-theta.ensures.same.1 ∙ ap (λ (s : SolidUpdate). s.theta) m in
    rw (p.1, p.2)
    (rest_refused a.p a.g a.time_s a.neg.now a.pos.now a.c_e.now a.current a.dt c.in_ok-fit.ensures.refused c.in_ok-check_load.ensures (sym none.0) (sym none.1) c.update_electrolyte-new_c_e.result c.report_of-report.result
    (rw (c.get-n_neg.ensures.value, c.get-n_pos.ensures.value, c.n_x_neg.ensures, c.n_x_pos.ensures, g) at c.update_electrolyte-new_c_e.ensures)
    (rw (c.in_ok-fit.ensures.same.0, g, neg, pos) at c.report_of-report.ensures)
    _ (rw g at c.in_err-check_outcome.ensures))

pub returns : goal.returns
returns c =
    let a = c.args in
    let g = c.in_ok-fit.ensures.same.1 in
    let n = rw (c.particle_params-anode.ensures, c.anode.ensures, c.n_r.ensures, c.get-n_neg.ensures.value, c.n_x_neg.ensures, g) at c.update_solid-neg_moved.ensures in
    let m = rw (c.particle_params-cathode.ensures, c.cathode.ensures, c.n_r-2.ensures, c.get-n_pos.ensures.value, c.n_x_pos.ensures, g) at c.update_solid-pos_moved.ensures in
    let met = equal_first (ap (λ (s : SolidUpdate). s.refusal) n) (ap (λ (s : SolidUpdate). s.refusal) m) in
    let none = neither_refused _ _ (sym (c.in_ok-theta.ensures.refused ∙ met)) in
    let neg = c.in_ok-theta.ensures.same.0 ∙ ap (λ (s : SolidUpdate). s.theta) n in
    let pos = c.in_ok-theta.ensures.same.1 ∙ ap (λ (s : SolidUpdate). s.theta) m in
    rw (ap (λ (s : SolidUpdate). s.c_s) n, ap (λ (s : SolidUpdate). s.c_s) m)
    (made_step a.p a.g a.time_s a.neg.now a.pos.now a.c_e.now a.current a.dt c.in_ok-fit.ensures.refused c.in_ok-check_load.ensures (sym none.0) (sym none.1) c.update_electrolyte-new_c_e.result c.report_of-report.result
    (rw (c.get-n_neg.ensures.value, c.get-n_pos.ensures.value, c.n_x_neg.ensures, c.n_x_pos.ensures, g) at c.update_electrolyte-new_c_e.ensures)
    (rw (c.in_ok-fit.ensures.same.0, g, neg, pos) at c.report_of-report.ensures)
    (rw g at c.in_ok-check_outcome.ensures))
