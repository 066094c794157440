-- `row_search::group_row` meets its contract: a group is passed over or looked at. Assumes nothing.
use Rattle.row_search.specs.FirstWhere.{first_over, first_in_looked}
use Rattle.row_search.proofs.group_row.Goals as goal

pub returns-then-low-voltage : goal.returns-then-low-voltage
returns-then-low-voltage c =
    first_in_looked _ _ _ _ _ c.if-low-voltage.true c.first_in.ensures

pub returns : goal.returns
returns c =
    first_over _ _ _ _ c.if-low-voltage.false c.requires.0
