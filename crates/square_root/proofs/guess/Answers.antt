-- `guess` meets its contract: a number in range, whatever the floats give. Assumes nothing.
use Prim.Native.Nat.{◌+◌, ◌-◌, ◌*◌, ◌/◌}
use native.Mathlib.Omega.{arith}
use Rattle.square_root.proofs.Patterns.{no_nan_bits}
use Rattle.square_root.proofs.guess.Goals as goal

pub float_from_bits-t : goal.float_from_bits-t
float_from_bits-t c =
    no_nan_bits (0x3fe0_0000_0000_0000 + c.args.c + c.args.odd * 0x10_0000_0000_0000) (omega arith)

pub float_from_bits-y0 : goal.float_from_bits-y0
float_from_bits-y0 c =
    no_nan_bits (0x5fe6_eb50_c7b5_37a9 - (0x3fe0_0000_0000_0000 + c.args.c + c.args.odd * 0x10_0000_0000_0000) / 2) (omega arith)
