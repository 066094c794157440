-- `abs` meets its contract. Assumes nothing.
use Rattle.std.proofs.Common.{◌∙◌}
use Rattle.min_max.proofs.SignLaws.{abs_is}
use Rattle.min_max.proofs.abs.Goals as goal

pub returns : goal.returns
returns c =
    c.abs.ensures.value ∙ abs_is c.args.x
