-- `row_search::first_in` meets its contract: no row before j is under the voltage. Assumes nothing.
use Rattle.row_search.specs.Search.{under}
use Rattle.row_search.specs.FirstWhere.{Passed}
use Rattle.row_search.proofs.first_in.Given as goal

abbrev pub invariant-loop-j : goal.invariant-loop-j
invariant-loop-j l = Passed (under l.rows l.voltage) l.start l.end l.j
