-- `dfn_electrolyte::node` meets its contract: the tests say which nodes move. Assumes nothing.
use Rattle.std.proofs.Common.{◌+◌, arith}
use Rattle.dfn_electrolyte.specs.Electrolyte.{node_with}
use Rattle.dfn_electrolyte.proofs.Both.{both_less}
use Rattle.dfn_electrolyte.proofs.node.Goals as goal

pub moved-requires : goal.moved-requires
moved-requires c =
    let h = both_less 0 c.args.i (c.args.i + 1) c.args.neg.n c.if-i-neg.true in
    (omega (arith, h.0), omega (arith, h.1))

pub returns-then-i-neg : goal.returns-then-i-neg
unfolding node_with
returns-then-i-neg c =
    rw (c.if-i-neg.true, c.moved.ensures)

pub moved-requires-then-neg-i : goal.moved-requires-then-neg-i
moved-requires-then-neg-i c =
    let args = c.args in
    let h = both_less args.neg.n args.i (args.i + 1) (args.neg.n + 1 + args.pos.n) c.if-neg-i.true in
    (omega (arith, h.0), omega (arith, h.1))

pub returns-then-neg-i : goal.returns-then-neg-i
unfolding node_with
returns-then-neg-i c =
    rw (c.if-i-neg.false, c.if-neg-i.true, c.moved-then-neg-i.ensures)

pub returns : goal.returns
unfolding node_with
returns c =
    rw (c.if-i-neg.false, c.if-neg-i.false)
