-- `cycle_run::moved_on` meets its contract: each way out has what the test found. Assumes nothing.
use borrow.Author.Tests.{lt-ltb, le-ltb}
use Rattle.cycle_run.specs.Counters.{moved_on}
use Rattle.cycle_run.proofs.moved_on.Goals as goal

pub returns-then-next-g : goal.returns-then-next-g
unfolding moved_on
returns-then-next-g c =
    rw (lt-ltb _ _ c.if-next-g.true)

pub returns : goal.returns
unfolding moved_on
returns c =
    rw (le-ltb _ _ c.if-next-g.false)
