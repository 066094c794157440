-- `decimal_spelling::take_whole` meets its contract. Assumes nothing.
use mathlib.Core.Path.{refl}
use Rattle.decimal_spelling.specs.Limbs.{whole_part_of, behind}
use Rattle.decimal_spelling.proofs.take_whole.Goals as goal

pub returns : goal.returns
unfolding whole_part_of behind
returns c =
    (refl, refl)
