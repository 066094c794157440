-- `matrix_rows::swap_rows` meets its contract: before turn k, k places of both rows are swapped and the matrix is as long as it was. Assumes nothing.
use Rattle.std.proofs.Common.{◌≡◌, ◌∙◌, refl, arith, rules}
use Rattle.matrix_rows.specs.Loops.{range_none, range_next}
use Rattle.matrix_rows.specs.Rows.{rows_swapped}
use Rattle.matrix_rows.specs.Places.{place}
use Rattle.matrix_rows.proofs.Swaps.{swap_made}
use Rattle.matrix_rows.proofs.swap_rows.Goals as goal

pub loop-k-init : goal.loop-k-init
unfolding rows_swapped
loop-k-init c =
    (search rules, (refl, rw (range_none 0)))

pub loop-k-preserved : goal.loop-k-preserved
unfolding rows_swapped
loop-k-preserved c =
    let args = c.args in
    let turn = c.loop-k in
    let made = swap_made turn.a (place args.p turn.k) (place args.q turn.k) (omega arith) (omega arith) in (
      search rules,
      (
        c.swap.ensures.len ∙ turn.invariant.1.0,
        c.swap.ensures.after ∙ made ∙ rw (range_next 0 turn.k _ _ (omega arith), ← turn.invariant.1.1),
      ),
    )

pub shape_of-a : goal.shape_of-a
shape_of-a c =
    c.loop-k.invariant.1.0

pub returns : goal.returns
returns c =
    let e : c.loop-k.k ≡ c.args.n = omega arith in
    rw e at c.loop-k.invariant.1.1
