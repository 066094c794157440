-- `decimal_text::digit_run` meets its contract. Assumes nothing.
use Rattle.std.proofs.Common.{◌≡◌, ◌+◌, ◌≤◌, min, drop}
use Rattle.decimal_text.specs.Digits.{most, digits_ahead, value_with}
use Rattle.decimal_text.proofs.digit_run.Given as goal

abbrev pub invariant-loop-at : goal.invariant-loop-at
invariant-loop-at l = (l.value ≤ most) × (min (value_with l.value (drop l.at l.s)) most ≡ min (value_with l.n (drop l.from l.s)) most) × (l.at + digits_ahead (drop l.at l.s) ≡ l.from + digits_ahead (drop l.from l.s))
