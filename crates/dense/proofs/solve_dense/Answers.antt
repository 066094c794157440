-- `dense::solve_dense` meets its contract: what nothing refuses is fit. Assumes nothing.
use Rattle.std.proofs.Common.{sym}
use Rattle.dense.proofs.Sizes.{input_valid}
use Rattle.dense.proofs.solve_dense.Goals as goal

pub solve_fit-requires : goal.solve_fit-requires
solve_fit-requires c = input_valid _ _ _ (sym c.in_ok-check_input.ensures)
