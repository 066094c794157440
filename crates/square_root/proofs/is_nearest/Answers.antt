-- `is_nearest` meets its contract. Assumes nothing.
use mathlib.Core.Path.{◌≡◌}
use Prim.Native.Nat.{◌+◌, ◌-◌, ◌*◌, ◌/◌, ◌^◌}
use native.Mathlib.Omega.{arith}
use lib.Dec.{leb, ltb}
use Rattle.square_root.proofs.Squares.{words_le, words_lt_more}
use Rattle.square_root.proofs.is_nearest.Goals as goal

pub returns : goal.returns
returns c =
    let s = c.squared-s in
    let n = c.args.n in
    let x = c.args.x in
    let le : leb x (s.result.high + (s.result.low + n) / 2 ^ 52) ≡ leb (x * 2 ^ 52) (n * n + n) = words_le s.result.high (s.result.low + n) (n * n + n) x (omega (
      arith,
      s.ensures.same,
    )) in
    let lt : ltb (s.result.high + (s.result.low + 2 ^ 53 - n) / 2 ^ 52) (x + 2) ≡ ltb (n * n) (x * 2 ^ 52 + n) = words_lt_more s.result.high (s.result.low + 2 ^ 53 - n)
    (n * n) n x (omega (arith, s.ensures.same)) in
    rw (le, lt)
