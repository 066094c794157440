-- `sqrt_bits` meets its contract. Assumes nothing.
use mathlib.Core.Path.{sym}
use Prim.Native.Nat.{◌/◌, ◌%◌, ◌^◌}
use lib.Ieee.{binary64, of_bits}
use Rattle.square_root.specs.Parts.{units_of}
use Rattle.square_root.proofs.Patterns.{positive_value, positive_units}
use Rattle.square_root.proofs.Units.{root_bits}
use Rattle.square_root.proofs.sqrt_bits.Goals as goal

pub returns-clause-value : goal.returns-clause-value
returns-clause-value c =
    let p = c.in_ok-p in
    let b = c.args.b in
    let n = c.nearest_root in
    let r = p.ensures.number in (
      r,
      sym (root_bits (of_bits binary64 b) (units_of (b / 2 ^ 52) (b % 2 ^ 52)) p.p.c p.p.w n.result (positive_value b r.1) (positive_units b r.0)
          (p.ensures.parts.number r.0 r.1) n.ensures.nearest_whole n.ensures.digits53),
    )
