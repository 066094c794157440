-- `dense_elimination::eliminate` meets its contract. Before a turn of the columns, those before it are eliminated, none was refused and the matrix is as long as it was;
-- before a turn of the search, p is the pivot of the rows before it, and once every row is looked at it is not below the limit. Assumes nothing.
use Prim.Native.Nat.{◌+◌}
use mathlib.Core.Path.{◌≡◌, refl, sym, ◌∙◌}
use mathlib.Core.Bool.{false}
use native.Mathlib.Omega.{arith}
use borrow.Author.Rules.{rules}
use Rattle.matrix_rows.specs.Loops.{try_none, try_next, try_ends}
use Rattle.matrix_columns.specs.Columns.{system}
use Rattle.dense_elimination.specs.Elimination.{tiny, pivot_of, eliminated}
use Rattle.dense_elimination.proofs.Pivots.{pivot_first, pivot_next, pivot_row, column_none, column_some}
use Rattle.dense_elimination.proofs.eliminate.Goals as goal
use Rattle.dense_elimination.proofs.eliminate.Goals.{then-row-n+else-p, else-row-n}

pub columns-init : goal.columns-init
columns-init c =
    (search rules, (refl, (refl, rw try_none)))

pub loop-row-init : goal.loop-row-init
loop-row-init c =
    (search rules, (search rules, (c.columns.invariant.1.0, (rw pivot_first c.candidate-p.ensures, λ e. absurd (omega (arith, e))))))

pub loop-row-preserved : goal.loop-row-preserved
loop-row-preserved c =
    let loop = c.loop-row in
    let e : c.larger-p.result ≡ pivot_of c.columns.a c.columns.col (loop.row + 1) = rw (c.larger-p.ensures, c.candidate.ensures, c.loop-row.invariant.1.1.1.0) (pivot_next _ _ _ c.loop-row.invariant.0) in
    let f : loop.row + 1 ≡ c.args.n → tiny c.larger-p.result.val ≡ false = elim c.if-row-n.branch [ then-row-n+else-p w ↦ λ e. w.if-p.false | else-row-n w ↦ λ e. absurd (w.if-row-n.false e) ] in
    (search rules, (search rules, (loop.invariant.1.1.0, (e, f))))

pub take_pivot-requires : goal.take_pivot-requires
take_pivot-requires c =
    let loop = c.loop-row in
    let columns-test = c.columns-test in
    let args = c.args in
    let e : loop.row ≡ args.n = omega arith in
    (search rules, (rw (loop.invariant.1.1.1.0, e) (pivot_row _ _ _ columns-test.true), search rules))

pub columns-preserved : goal.columns-preserved
columns-preserved c =
    let turn = c.columns in
    let found = c.loop-row in
    let taken = c.take_pivot in
    let e : found.row ≡ c.args.n = omega arith in
    let some = column_some _ _ (system turn.a turn.x) _ (rw e at found.invariant.1.1.1.0) (found.invariant.1.1.1.1 e) in
    (search rules, (found.invariant.1.1.0, (taken.auto.a ∙ turn.invariant.1.1.0, rw taken.ensures (sym (try_next _ _ _ _ turn.invariant.1.1.1 ∙ some)))))

pub shape_of-a-after-columns : goal.shape_of-a-after-columns
shape_of-a-after-columns c =
    c.columns.invariant.1.1.0

pub returns-after-columns : goal.returns-after-columns
unfolding eliminated
returns-after-columns c =
    let e : c.columns.col ≡ c.args.n = omega arith in
    rw c.columns.invariant.1.0 (rw e at c.columns.invariant.1.1.1)

pub shape_of-a-then-p : goal.shape_of-a-then-p
shape_of-a-then-p c =
    c.columns.invariant.1.1.0

pub returns-then-p : goal.returns-then-p
unfolding eliminated
returns-then-p c =
    let if1 = c.if-row-n in
    let columns-test = c.columns-test in
    let columns = c.columns in
    let e : c.larger-p.result ≡ pivot_of c.columns.a c.columns.col (c.loop-row.row + 1) = rw (c.larger-p.ensures, c.candidate.ensures, c.loop-row.invariant.1.1.1.0) (pivot_next _ _ _ c.loop-row.invariant.0) in
    try_ends _ _ _ columns.col _ _ columns-test.true (λ z. absurd (omega (arith, z))) columns.invariant.1.1.1
    (column_none _ _ (system columns.a columns.x) _ (rw if1.true at e) c.if-p.true)
