-- `cycle_run::cycle` meets its contract: a cycle that is refused as a whole changes nothing, any other walks its list. Assumes nothing.
use Rattle.std.proofs.Common.{sym, ◌∙◌, ap, subst, arith, length}
use Rattle.std.proofs.Math.Dec.{eqb-suc-zero}
use Rattle.cycle_run.specs.States.{CycleState}
use Rattle.cycle_run.specs.Cycle.{cycle_settings, cycled, cycled_rows}
use Rattle.cycle_run.specs.Counters.{Inside, started_at, finished_at, all_turns_at, all_rows_at}
use Rattle.cycle_run.specs.Settings.{settings_fit}
use Rattle.cycle_run.specs.Walk.{turns_walked, rows_walked}
use Rattle.cycle_run.proofs.cycle.Goals as goal

pub returns-in-Err : goal.returns-in-Err
unfolding cycled cycled_rows
returns-in-Err c =
    record { result = rw (← c.in-Err.ensures, eqb-suc-zero); rows = rw (← c.in-Err.ensures, eqb-suc-zero) }

pub run_turns-requires : goal.run_turns-requires
unfolding started_at
run_turns-requires c =
    let a = c.args in
    let g = cycle_settings a.count a.repeats a.budget a.dt a.temp_k in
    let m = settings_fit a.phases g a.s (length a.out.now) (sym c.in_default.ensures) in
    let s = c.start-run.ensures in
    let inside = subst (λ (r : CycleState). Inside g r.position) (sym s) (m.phases_least, (m.phases_most, m.repeats_least)) in
    record { ready = (ap (λ (r : CycleState). r.rows) s, inside); room = (omega (arith, m.budget_most), m.room) }

pub returns : goal.returns
unfolding cycled cycled_rows all_turns_at all_rows_at
returns c =
    let a = c.args in
    let g = cycle_settings a.count a.repeats a.budget a.dt a.temp_k in
    let m = settings_fit a.phases g a.s (length a.out.now) (sym c.in_default.ensures) in
    let u = c.run_turns.ensures in
    let s = c.start-run.ensures in
    record {
      result = rw (← c.in_default.ensures) (c.finished.ensures ∙ ap finished_at u.state ∙ ap (all_turns_at a.phases g) s ∙ turns_walked a.phases g a.s m.phases_least m.repeats_least);
      rows = rw (← c.in_default.ensures) (u.rows ∙ ap (λ (x : CycleState). all_rows_at a.phases g x a.out.now) s ∙ rows_walked a.phases g a.s m.phases_least m.repeats_least _);
    }
