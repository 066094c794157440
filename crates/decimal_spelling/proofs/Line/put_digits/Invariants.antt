-- `decimal_spelling::Line::put_digits` meets its contract. Assumes nothing.
use Rattle.std.proofs.Common.{◌≡◌, ◌-◌}
use Rattle.decimal_spelling.specs.Spelling.{put_all, digits_by}
use Rattle.decimal_spelling.proofs.Line.put_digits.Given as goal

abbrev pub invariant-loop : goal.invariant-loop
invariant-loop l = put_all l.self (digits_by (1100 - l.counter) l.left.rest l.left.gap) ≡ put_all l.initial.self (digits_by 1100 l.initial.left.rest l.initial.left.gap)
