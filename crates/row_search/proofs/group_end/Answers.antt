-- `row_search::group_end` meets its contract. Assumes nothing.
use borrow.Author.Tests.{lt-ltb, le-ltb}
use Rattle.row_search.specs.GroupSearch.{group_end}
use Rattle.row_search.proofs.group_end.Goals as goal

pub returns-then-count-start-lt64 : goal.returns-then-count-start-lt64
unfolding group_end
returns-then-count-start-lt64 c =
    rw (lt-ltb _ _ c.if-count-start-lt64.true)

pub returns : goal.returns
unfolding group_end
returns c =
    rw (le-ltb _ _ c.if-count-start-lt64.false)
