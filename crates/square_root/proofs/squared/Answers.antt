-- `squared` meets its contract. Assumes nothing.
use native.Mathlib.Omega.{arith}
use Rattle.square_root.proofs.Squares.{halves, squared_is}
use Rattle.square_root.proofs.squared.Goals as goal

pub overflow_mul-mid : goal.overflow_mul-mid
overflow_mul-mid c =
    let h = halves c.args.n c.requires in omega arith

pub overflow_mul-mid-2 : goal.overflow_mul-mid-2
overflow_mul-mid-2 c =
    let h = halves c.args.n c.requires in omega arith

pub overflow_mul-result : goal.overflow_mul-result
overflow_mul-result c =
    let h = halves c.args.n c.requires in omega arith

pub overflow_add-result : goal.overflow_add-result
overflow_add-result c =
    let h = halves c.args.n c.requires in omega arith

pub overflow_mul-result-3 : goal.overflow_mul-result-3
overflow_mul-result-3 c =
    let h = halves c.args.n c.requires in omega arith

pub overflow_add-result-2 : goal.overflow_add-result-2
overflow_add-result-2 c =
    let h = halves c.args.n c.requires in omega arith

pub returns : goal.returns
returns c =
    squared_is c.args.n c.requires
