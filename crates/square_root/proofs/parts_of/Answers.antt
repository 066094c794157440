-- `parts_of` meets its contract. Assumes nothing.
use Prim.Native.Nat.{◌/◌, ◌%◌, ◌^◌}
use native.Mathlib.Omega.{arith}
use Rattle.square_root.proofs.Normalised.{scaled_high, leading_below, normal_low, normal_of}
use Rattle.square_root.proofs.parts_of.Goals as goal

pub returns-then-e-gt0-clause-parts : goal.returns-then-e-gt0-clause-parts
returns-then-e-gt0-clause-parts c =
    let b = c.args.b in
    record {
      number = λ p l. normal_of _ _ _ (scaled_high (b / 2 ^ 52) (b % 2 ^ 52) c.if-e-gt0.true (omega arith) (omega arith)) (omega arith);
      at_zero = λ e. absurd (omega arith);
      beyond = λ l. absurd (omega arith);
    }

pub overflow_sub-result : goal.overflow_sub-result
overflow_sub-result c =
    leading_below c.ilog2-w.result (c.args.b % 2 ^ 52) c.ilog2-w.ensures.power_le (omega arith)

pub returns-clause-parts : goal.returns-clause-parts
returns-clause-parts c =
    let b = c.args.b in
    let e = c.ilog2-w.ensures in
    record {
      number = λ p l. normal_low (b / 2 ^ 52) c.ilog2-w.result (b % 2 ^ 52) (omega arith) e.power_le e.next_power_gt (omega arith);
      at_zero = λ e. absurd (omega arith);
      beyond = λ l. absurd (omega arith);
    }
