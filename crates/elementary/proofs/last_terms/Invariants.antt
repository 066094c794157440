-- `last_terms` meets its contract. Assumes nothing.
use mathlib.Core.Path.{◌≡◌}
use Rattle.elementary.specs.Exp.{series}
use Rattle.elementary.specs.LastTerms.{start_low, start_high}
use Rattle.elementary.proofs.last_terms.Given as goal

abbrev pub invariant-loop-k : goal.invariant-loop-k
invariant-loop-k l = (series l.k l.y l.low ≡ series l.terms l.y start_low) × (series l.k l.y l.high ≡ series l.terms l.y start_high)
