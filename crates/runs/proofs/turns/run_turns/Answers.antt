-- `runs::turns::run_turns` meets its contract: the loop makes the turns of the definition, and leaves as each ending does. Assumes nothing.
use Rattle.std.proofs.Common.{ℕ, ◌+◌, ◌≡◌, refl, sym, ◌∙◌, ap, subst, rules, true, false, eqb, eqb-true}
use Rattle.std.proofs.lemmas.Bool.{eqb-false}
use Rattle.runs.specs.Rows.{run_after, rows_after}
use Rattle.runs.specs.Laws.{going_on, over_at_once, ends_refused, ends_stopped}
use Rattle.runs.proofs.turns.run_turns.Goals as goal

-- what a test of an ending's number m says of what has ended the run, n
is : {m n k : ℕ} → m ≡ n → true ≡ eqb m k → n ≡ k
is p e = sym p ∙ eqb-true _ _ (sym e)

is_not : {m n k : ℕ} → m ≡ n → false ≡ eqb m k → n ≡ k → ⊥
is_not p e z = eqb-false _ _ (sym e) (p ∙ z)

pub returns-then-not-goes_on : goal.returns-then-not-goes_on
returns-then-not-goes_on g c =
    let w = g.T.Turns in
    let q = over_at_once w.over (w.turned c.args.t.now) w.row_of (w.see c.args.run.now) c.args.out.now c.args.total (is_not c.ending.ensures c.if-not-goes_on.ensures) in
    record { state = q.0; rows = q.1 }

pub loop-i-init : goal.loop-i-init
unfolding run_after rows_after
loop-i-init g c =
    (record { within = search rules; state = refl; on = is c.ending.ensures c.if-not-goes_on.ensures; places = refl; long = refl }, c.requires.ready)

pub returns-then-is_refused : goal.returns-then-is_refused
returns-then-is_refused g c =
    let w = g.T.Turns in
    let e = is c.ending-ending.ensures c.if-is_refused.ensures in
    let q = ends_refused w.over (w.turned c.args.t.now) w.row_of _ _ _ _ _ _ c.loop-i.invariant.0 _ c.turn.ensures e c.loop-i-test.true in
    record { state = q.0; rows = q.1 }

pub returns-then-not-goes_on-2 : goal.returns-then-not-goes_on-2
returns-then-not-goes_on-2 g c =
    let w = g.T.Turns in
    let e = c.ending-ending.ensures in
    let q =
    ends_stopped w.over (w.turned c.args.t.now) w.row_of _ _ _ _ _ _ c.loop-i.invariant.0 _ _ _ c.turn.ensures (is_not e c.if-is_refused.ensures) c.row.ensures
    c.put_row.ensures c.loop-i-test.true (is_not e c.if-not-goes_on-2.ensures) in
    record { state = q.0; rows = q.1 }

pub loop-i-preserved : goal.loop-i-preserved
loop-i-preserved g c =
    let w = g.T.Turns in
    let t = c.turn.ensures in
    let i = c.loop-i.invariant in
    let e = c.ending-ending.ensures in
    let on = is e c.if-not-goes_on-2.ensures in (
      going_on w.over (w.turned c.args.t.now) w.row_of _ _ _ _ _ _ i.0 _ _ _ t (is_not e c.if-is_refused.ensures) c.row.ensures c.put_row.ensures c.put_row.auto.out
          c.loop-i-test.true on,
      subst (w.ready c.args.t.now (c.loop-i.i + 1)) (sym t) (g.met.T.Turns.keeps _ _ _ i.1 (sym (ap w.over t) ∙ on)),
    )
