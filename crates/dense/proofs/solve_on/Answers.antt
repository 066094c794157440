-- `dense::solve_on` meets its contract: the part of a cleared array that it lends is as many zeros. Assumes nothing.
use Rattle.std.proofs.Common.{◌*◌, arith, rules}
use Rattle.dense.proofs.Sizes.{zeros_cut}
use Rattle.dense.proofs.solve_on.Goals as goal

pub whole_as_front-solve_in : goal.whole_as_front-solve_in
whole_as_front-solve_in g c = (omega arith, omega arith)

pub solve_in-requires : goal.solve_in-requires
solve_in-requires g c =
    (search rules, (zeros_cut (c.args.n * 32) g.row.P (omega arith), search rules))
