-- `csv_rows::put_row` meets its contract. Assumes nothing.
use Rattle.std.proofs.Common.{◌≡◌, refl, ◌∙◌, add-one, arith}
use Rattle.decimal_spelling.specs.Spelling.{put_all}
use Rattle.csv_rows.specs.Row.{columns_by}
use Rattle.csv_rows.proofs.Columns.{column-turn}
use Rattle.csv_rows.proofs.put_row.Goals as goal

pub loop-k-init : goal.loop-k-init
unfolding columns_by put_all
loop-k-init c = refl

pub loop-k-preserved : goal.loop-k-preserved
loop-k-preserved c =
    rw (add-one c.loop-k.k) (column-turn c.args.line.now c.loop-k.line c.put_number.new.self c.put.new.self c.args.rows.now c.args.row c.args.last c.loop-k.k c.loop-k.invariant (c.put_number.ensures ∙ rw
    c.number_at.ensures) (c.put.ensures ∙ rw c.separator.ensures))

pub returns : goal.returns
returns c =
    let e : c.loop-k.k ≡ 8 = omega arith in rw e at c.loop-k.invariant
