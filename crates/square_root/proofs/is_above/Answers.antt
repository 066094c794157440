-- `is_above` meets its contract. Assumes nothing.
use Prim.Native.Nat.{◌+◌, ◌*◌}
use native.Mathlib.Omega.{arith}
use Rattle.square_root.proofs.Squares.{words_lt}
use Rattle.square_root.proofs.is_above.Goals as goal

pub returns : goal.returns
returns c =
    let s = c.squared-s in
    let n = c.args.n in
    words_lt s.result.high (s.result.low + n) (n * n + n) c.args.x (omega (arith, s.ensures.same))
