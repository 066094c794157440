-- `ln_parts` meets its contract. Assumes nothing.
use mathlib.Core.Path.{◌≡◌}
use Rattle.binary64.specs.Operators.{◌⊘◌}
use Rattle.elementary.specs.Exp.{one}
use Rattle.elementary.specs.Ln.{terms, twenty_three}
use Rattle.elementary.proofs.ln_parts.Given as goal

abbrev pub invariant-loop-j : goal.invariant-loop-j
invariant-loop-j l = terms l.j l.q l.a ≡ terms 11 l.q (one ⊘ twenty_three)
