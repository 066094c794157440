-- `discharge_run::run_rows` meets its contract: the loop makes the turns of the definition, keeps the summary of the rows so far, and leaves as each ending does. Assumes nothing.
use Rattle.std.proofs.Common.{ℕ, ◌+◌, refl, sym, ◌∙◌, ap, arith, rules, eqb-true}
use Rattle.std.proofs.lemmas.Bool.{eqb-false}
use Rattle.runs.specs.Rows.{run_after, rows_after}
use Rattle.runs.specs.Laws.{going_on, over_at_once, ends_refused, ends_stopped, ends_full}
use Rattle.runs.specs.LowestLaws.{summary_none, summary_length, summary_updated, summary_ends, group_within}
use Rattle.discharge_run.specs.States.{RunState, state_of}
use Rattle.discharge_run.specs.Discharge.{over_of, last_row_of, turned, finished_run, all_turns, all_rows}
use Rattle.discharge_run.specs.Laws.{turned_rows, turned_refused}
use Rattle.discharge_run.proofs.run_rows.Goals as goal

abbrev rows_of : RunState → ℕ
rows_of r = r.rows

pub returns-then-not-goes_on : goal.returns-then-not-goes_on
unfolding all_turns all_rows finished_run
returns-then-not-goes_on c =
    let a = c.args in
    let q = over_at_once over_of (turned a.w) last_row_of (state_of a.first) a.out.now a.total (eqb-false _ _ (sym c.if-not-goes_on.ensures)) in
    record { result = c.finished.ensures ∙ ap finished_run q.0; rows = q.1; lowest = summary_ends rows_of _ _ 0 _ _ _ _ q c.requires.0 (sym (summary_none _ _)) }

pub loop-i-init : goal.loop-i-init
unfolding run_after rows_after
loop-i-init c =
    (record { within = search rules; state = refl; on = eqb-true _ _ (sym c.if-not-goes_on.ensures); places = refl; long = refl }, (c.requires.0, sym (summary_none _ _)))

pub returns-then-is_refused : goal.returns-then-is_refused
unfolding all_turns all_rows finished_run
returns-then-is_refused c =
    let w = c.args.w in
    let t = c.turn-run.ensures in
    let e = eqb-true _ _ (sym c.if-is_refused.ensures) in
    let q = ends_refused over_of (turned w) last_row_of _ _ _ _ _ _ c.loop-i.invariant.0 _ t e c.loop-i-test.true in
    let n = ap rows_of t ∙ turned_refused w (state_of c.loop-i.run) (sym (ap over_of t) ∙ e) ∙ c.loop-i.invariant.1.0 in
    record { result = c.finished-then-is_refused.ensures ∙ ap finished_run q.0; rows = q.1; lowest = summary_ends rows_of _ _ c.loop-i.i _ _ _ _ q n c.loop-i.invariant.1.1 }

pub update_lowest-requires : goal.update_lowest-requires
update_lowest-requires c =
    rw (c.loop-i.invariant.1.1, summary_length _ _ _) (group_within _ _ _ c.loop-i-test.true c.requires.1.1.1)

pub returns-then-not-goes_on-2 : goal.returns-then-not-goes_on-2
unfolding all_turns all_rows finished_run
returns-then-not-goes_on-2 c =
    let loop = c.loop-i in
    let pre = c.requires in
    let w = c.args.w in
    let t = c.turn-run.ensures in
    let on = eqb-false _ _ (sym c.if-is_refused.ensures) in
    let q =
    ends_stopped over_of (turned w) last_row_of _ _ _ _ _ _ loop.invariant.0 _ _ _ t on c.row_of-row.ensures c.put_row.ensures c.loop-i-test.true
    (eqb-false _ _ (sym c.if-not-goes_on-2.ensures)) in
    let n = ap rows_of t ∙ turned_rows w (state_of loop.run) (λ z. on (ap over_of t ∙ z)) ∙ ap (λ (k : ℕ). k + 1) loop.invariant.1.0 in
    let s =
    summary_updated _ _ _ c.row_of-row.result _ _ loop.i _ loop.invariant.1.1 refl c.put_row.ensures c.update_lowest.ensures
    (omega (arith, c.loop-i-test.true, pre.1.1.0, loop.invariant.0.long)) (group_within _ _ _ c.loop-i-test.true pre.1.1.1) in
    record { result = c.finished-then-not-goes_on-2.ensures ∙ ap finished_run q.0; rows = q.1; lowest = summary_ends rows_of _ _ (loop.i + 1) _ _ _ _ q n s }

pub loop-i-preserved : goal.loop-i-preserved
loop-i-preserved c =
    let loop = c.loop-i in
    let pre = c.requires in
    let w = c.args.w in
    let t = c.turn-run.ensures in
    let on = eqb-false _ _ (sym c.if-is_refused.ensures) in
    let g =
    going_on over_of (turned w) last_row_of _ _ _ _ _ _ loop.invariant.0 _ _ _ t on c.row_of-row.ensures c.put_row.ensures c.put_row.auto.out c.loop-i-test.true
    (eqb-true _ _ (sym c.if-not-goes_on-2.ensures)) in
    let n = ap rows_of t ∙ turned_rows w (state_of loop.run) (λ z. on (ap over_of t ∙ z)) ∙ ap (λ (k : ℕ). k + 1) loop.invariant.1.0 in
    let s =
    summary_updated _ _ _ c.row_of-row.result _ _ loop.i _ loop.invariant.1.1 refl c.put_row.ensures c.update_lowest.ensures
    (omega (arith, c.loop-i-test.true, pre.1.1.0, loop.invariant.0.long)) (group_within _ _ _ c.loop-i-test.true pre.1.1.1) in
    (g, (n, s))

pub returns : goal.returns
unfolding all_turns all_rows finished_run
returns c =
    let loop = c.loop-i in
    let w = c.args.w in
    let q = ends_full over_of (turned w) last_row_of _ _ _ _ _ _ loop.invariant.0 c.loop-i-test.false in
    record { result = c.finished-2.ensures ∙ ap finished_run q.0; rows = q.1; lowest = summary_ends rows_of _ _ loop.i _ _ _ _ q loop.invariant.1.0 loop.invariant.1.1 }
