-- `runs::lowest::update_lowest` meets its contract: each way out has what the tests found. Assumes nothing.
use Rattle.runs.specs.LowestLaws.{updated_first, updated_lower, updated_kept}
use Rattle.runs.proofs.lowest.update_lowest.Goals as goal

pub returns-then-i-eq0 : goal.returns-then-i-eq0
returns-then-i-eq0 c =
    updated_first _ _ _ c.if-i-eq0.true

pub returns-then-voltage-lowest : goal.returns-then-voltage-lowest
returns-then-voltage-lowest c =
    updated_lower _ _ _ c.if-i-eq0.false c.if-voltage-lowest.true

pub returns-else-voltage-lowest : goal.returns-else-voltage-lowest
returns-else-voltage-lowest c =
    updated_kept _ _ _ c.if-i-eq0.false c.if-voltage-lowest.false
