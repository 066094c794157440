-- `is_negative` meets its contract. Assumes nothing.
use Rattle.std.proofs.Common.{sym, ap, not, ◌∙◌}
use Rattle.binary64.specs.Operators.{negative}
use Rattle.square_root.proofs.Patterns.{nan_is}
use Rattle.min_max.proofs.SignLaws.{sign_is}
use Rattle.min_max.proofs.is_negative.Goals as goal

pub returns-then-not-is_nan : goal.returns-then-not-is_nan
returns-then-not-is_nan c =
    c.is_sign_negative.ensures ∙ sign_is c.args.x

pub returns-else-not-is_nan : goal.returns-else-not-is_nan
returns-else-not-is_nan c =
    let n = nan_is c.args.x (sym c.is_nan.ensures.value ∙ c.if-not-is_nan.false) in
    ap not c.if-not-is_nan.false ∙ sym (ap negative n)
