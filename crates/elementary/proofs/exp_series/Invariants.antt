-- `exp_series` meets its contract. Assumes nothing.
use mathlib.Core.Path.{◌≡◌}
use Rattle.elementary.specs.Exp.{one, series}
use Rattle.elementary.proofs.exp_series.Given as goal

abbrev pub invariant-loop-k : goal.invariant-loop-k
invariant-loop-k l = series l.k l.y l.a ≡ series 18 l.y one
