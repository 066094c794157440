-- `last_terms` meets its contract. Assumes nothing.
use mathlib.Core.Path.{refl, sym, ap₂, ◌∙◌}
use native.Mathlib.Omega.{arith}
use lib.Ieee.{Float}
use Rattle.elementary.proofs.ExpLaws.{series_end, series_step}
use Rattle.elementary.proofs.last_terms.Goals as goal

pub loop-k-init : goal.loop-k-init
loop-k-init c =
    (refl, refl)

pub loop-k-preserved : goal.loop-k-preserved
loop-k-preserved c =
    let l = c.loop-k in
    (series_step l.k _ l.low c.loop-k-test.true ∙ l.invariant.0, series_step l.k _ l.high c.loop-k-test.true ∙ l.invariant.1)

pub returns : goal.returns
returns c =
    let l = c.loop-k in
    ap₂ (λ (a b : Float). record { low = a; high = b })
    (sym (series_end l.k _ l.low (omega arith)) ∙ l.invariant.0)
    (sym (series_end l.k _ l.high (omega arith)) ∙ l.invariant.1)
