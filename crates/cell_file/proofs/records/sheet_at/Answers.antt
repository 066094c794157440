-- `cell_file::records::sheet_at` meets its contract. Assumes nothing.
use Rattle.cell_file.specs.Records.{sheet_at}
use Rattle.cell_file.proofs.records.sheet_at.Goals as goal

pub returns : goal.returns
unfolding sheet_at
returns c =
    rw (c.of_numbers.ensures, c.ceil_count.ensures, c.ten_at-ten.ensures)
