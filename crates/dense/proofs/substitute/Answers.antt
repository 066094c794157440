-- `dense::substitute` meets its contract: before a turn, the unknowns past it are known. Assumes nothing.
use Rattle.std.proofs.Common.{◌≡◌, ◌-◌, ◌+◌, arith}
use Rattle.matrix_rows.specs.Loops.{try_none, try_next, try_ends}
use Rattle.dense.specs.Substitution.{column_solved, substituted}
use Rattle.dense.proofs.substitute.Goals as goal

pub loop-col-init : goal.loop-col-init
loop-col-init c =
    let e : c.args.n - c.args.n ≡ 0 = omega arith in
    rw (e, try_none)

pub returns-then-abs : goal.returns-then-abs
unfolding substituted column_solved
returns-then-abs c =
    let loop = c.loop-col in
    let n = c.args.n in
    let e : n - 1 - (n - loop.col) ≡ loop.col - 1 = omega arith in
    try_ends _ _ n (n - loop.col) _ _ (omega arith) (λ z. absurd (omega (arith, z))) loop.invariant (rw (e, ← c.abs.ensures, c.if-abs.true))

pub loop-col-preserved : goal.loop-col-preserved
unfolding column_solved
loop-col-preserved c =
    let loop = c.loop-col in
    let n = c.args.n in
    let e : n - 1 - (n - loop.col) ≡ loop.col - 1 = omega arith in
    let next : n - (loop.col - 1) ≡ n - loop.col + 1 = omega arith in
    rw (next, try_next _ _ _ _ loop.invariant, e, ← c.abs.ensures, c.if-abs.false, c.take_out.ensures)

pub returns : goal.returns
unfolding substituted
returns c =
    let e : c.args.n - c.loop-col.col ≡ c.args.n = omega arith in
    rw e at c.loop-col.invariant
