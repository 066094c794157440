-- `row_search::first_below` meets its contract: after g groups, none of their rows is a hit. Assumes nothing.
use Rattle.std.proofs.Common.{ℕ, Bool, List, get_or}
use Rattle.std.specs.Float.Ieee.{Float, nan, lt}
use Rattle.row_search.specs.Search.{under}
use Rattle.row_search.specs.GroupSearch.{Clear}
use Rattle.row_search.proofs.first_below.Given as goal

-- the lowest of group k is under the voltage
abbrev pub looked : List Float → Float → ℕ → Bool
looked lowest v k = lt (get_or lowest k nan) v

abbrev pub invariant-loop-g : goal.invariant-loop-g
invariant-loop-g l = Clear (looked l.lowest l.voltage) (under l.rows l.voltage) l.count l.g
