-- `decimal_spelling::placed` meets its contract. Assumes nothing.
use Prim.Native.Nat.{◌-◌}
use native.Mathlib.Omega.{arith}
use Prim.Native.Nat.{◌^◌, ◌%◌}
use native.Mathlib.Nat.{one-le-pow, zero-lt-suc, mod-lt}
use borrow.Author.Tests.{lt-ltb, le-ltb}
use Rattle.decimal_spelling.specs.Limbs.{placed_at}
use Rattle.decimal_spelling.proofs.Turns.{product_below}
use Rattle.decimal_spelling.proofs.placed.Goals as goal

pub nonzero_rem-a : goal.nonzero_rem-a
nonzero_rem-a c =
    rw c.pow-over.ensures (one-le-pow (60 - c.args.at % 60) 2 (zero-lt-suc 1))

pub overflow_mul-a : goal.overflow_mul-a
overflow_mul-a c =
    let two-to2 = c.pow-over in
    let two_to = c.pow-up in
    let args = c.args in
    let b = product_below (args.m % 2 ^ (60 - args.at % 60)) (args.at % 60) (omega arith) (mod-lt args.m (one-le-pow (60 - args.at % 60) 2 (zero-lt-suc 1))) in
    rw (two_to.ensures, two-to2.ensures) (omega (arith, b))

pub nonzero_div-a : goal.nonzero_div-a
nonzero_div-a c =
    rw c.pow-over.ensures (one-le-pow (60 - c.args.at % 60) 2 (zero-lt-suc 1))

pub returns-then-limb-lt19 : goal.returns-then-limb-lt19
unfolding placed_at
returns-then-limb-lt19 c =
    rw (lt-ltb _ _ c.if-limb-lt19.true, c.pow-up.ensures, c.pow-over.ensures)

pub returns-else-limb-lt19 : goal.returns-else-limb-lt19
unfolding placed_at
returns-else-limb-lt19 c =
    rw (le-ltb _ _ c.if-limb-lt19.false)
