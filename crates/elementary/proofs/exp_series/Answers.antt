-- `exp_series` meets its contract. Assumes nothing.
use mathlib.Core.Path.{sym, ◌∙◌}
use native.Mathlib.Omega.{arith}
use Rattle.elementary.proofs.ExpLaws.{series_end, series_step}
use Rattle.elementary.proofs.exp_series.Goals as goal

pub loop-k-preserved : goal.loop-k-preserved
loop-k-preserved c =
    let l = c.loop-k in
    series_step l.k _ l.a c.loop-k-test.true ∙ l.invariant

pub returns : goal.returns
returns c =
    let l = c.loop-k in
    sym (series_end l.k _ l.a (omega arith)) ∙ l.invariant
