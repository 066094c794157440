-- `csv_rows::put_row` meets its contract. Assumes nothing.
use Rattle.std.proofs.Common.{◌≡◌}
use Rattle.decimal_spelling.specs.Spelling.{put_all}
use Rattle.csv_rows.specs.Row.{columns_by}
use Rattle.csv_rows.proofs.put_row.Given as goal

abbrev pub invariant-loop-k : goal.invariant-loop-k
invariant-loop-k l = l.line ≡ put_all l.initial.line (columns_by l.k l.rows l.row l.last)
