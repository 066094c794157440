-- `matrix_rows::swap_places` meets its contract. Assumes nothing.
use Rattle.std.proofs.Common.{◌∙◌, arith}
use Rattle.matrix_rows.proofs.Swaps.{swap_made}
use Rattle.matrix_rows.proofs.swap_places.Goals as goal

pub returns : goal.returns
returns c = c.swap.ensures.after ∙ swap_made _ _ _ (omega arith) (omega arith)
