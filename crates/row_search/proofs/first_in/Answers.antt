-- `row_search::first_in` meets its contract: no row before j is under the voltage. Assumes nothing.
use native.Mathlib.Omega.{arith}
use Rattle.row_search.specs.FirstWhere.{passed_start, passed_more, passed_here, passed_all}
use Rattle.row_search.proofs.first_in.Goals as goal

pub loop-j-init : goal.loop-j-init
loop-j-init c =
    passed_start _ _ _ c.requires.0

pub bounds-rows-j : goal.bounds-rows-j
bounds-rows-j c =
    omega (arith, c.loop-j-test.true, c.requires.1)

pub returns-then-rows-j : goal.returns-then-rows-j
returns-then-rows-j c =
    (passed_here _ _ _ _ c.loop-j.invariant c.loop-j-test.true c.if-rows-j.true, c.loop-j-test.true)

pub loop-j-preserved : goal.loop-j-preserved
loop-j-preserved c =
    passed_more _ _ _ _ c.loop-j.invariant c.loop-j-test.true c.if-rows-j.false

pub returns : goal.returns
returns c =
    passed_all _ _ _ _ c.loop-j.invariant c.loop-j-test.false
