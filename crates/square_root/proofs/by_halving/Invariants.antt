-- `by_halving` meets its contract. Assumes nothing.
use Prim.Native.Nat.{◌+◌, ◌-◌, ◌*◌, ◌^◌, ◌≤◌, ◌<◌}
use Rattle.square_root.proofs.by_halving.Given as goal

abbrev pub invariant-loop-low : goal.invariant-loop-low
invariant-loop-low l = (2 ^ 52 ≤ l.low + 1) × (l.low < l.high) × (l.high ≤ 2 ^ 53) × (l.low * l.low + l.low < l.x * 2 ^ 52) × (l.x * 2 ^ 52 ≤ l.high * l.high + l.high)

abbrev pub decreases-loop-low : goal.decreases-loop-low
decreases-loop-low l = l.high - l.low
