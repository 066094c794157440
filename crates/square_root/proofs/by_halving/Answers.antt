-- `by_halving` meets its contract. Assumes nothing.
use mathlib.Core.Path.{◌≡◌, sym, ◌∙◌}
use Prim.Native.Nat.{◌+◌, ◌*◌, ◌/◌, ◌^◌, ◌≤◌, ◌<◌}
use native.Mathlib.Omega.{arith}
use borrow.Author.Tests.{ltb-true, ltb-false}
use Rattle.square_root.proofs.Squares.{nearest_between}
use Rattle.square_root.proofs.by_halving.Goals as goal

pub loop-low-preserved-then-is_above : goal.loop-low-preserved-then-is_above
loop-low-preserved-then-is_above c =
    let l = c.loop-low in
    let n = (l.low + l.high) / 2 in
    let h : n * n + n < c.args.x * 2 ^ 52 = ltb-true _ _ (sym c.is_above.ensures ∙ c.if-is_above.true) in
    (omega arith, omega arith, l.invariant.2, h, l.invariant.4)

pub loop-low-preserved : goal.loop-low-preserved
loop-low-preserved c =
    let l = c.loop-low in
    let n = (l.low + l.high) / 2 in
    let h : c.args.x * 2 ^ 52 ≤ n * n + n = ltb-false _ _ (sym c.is_above.ensures ∙ c.if-is_above.false) in
    (l.invariant.0, omega arith, omega arith, l.invariant.3, h)

pub returns : goal.returns
returns c =
    let l = c.loop-low in
    let e : l.high ≡ l.low + 1 = omega arith in
    record { nearest_whole = nearest_between l.low l.high _ e l.invariant.3 l.invariant.4; digits53 = (omega arith, l.invariant.2) }
