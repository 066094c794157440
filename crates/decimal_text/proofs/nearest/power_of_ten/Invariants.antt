-- `decimal_text::nearest::power_of_ten` meets its contract: after i turns the product is the i-th. Assumes nothing.
use Rattle.std.proofs.Common.{◌≡◌}
use Rattle.decimal_text.specs.Nearest.{tens}
use Rattle.decimal_text.proofs.nearest.power_of_ten.Given as goal

abbrev pub invariant-loop : goal.invariant-loop
invariant-loop l = l.p ≡ tens l.counter
