-- `decimal_spelling::Left::first_digit` meets its contract. Assumes nothing.
use Rattle.std.proofs.Common.{◌≡◌, ◌-◌}
use Rattle.decimal_spelling.specs.Spelling.{pass_zeros}
use Rattle.decimal_spelling.proofs.Left.first_digit.Given as goal

abbrev pub invariant-loop-passed : goal.invariant-loop-passed
invariant-loop-passed l = pass_zeros (1100 - l.passed) l.passed l.self.rest l.self.gap ≡ pass_zeros 1100 0 l.initial.self.rest l.initial.self.gap
