-- `cell_file::records::put_sheet` meets its contract. Assumes nothing.
use Rattle.cell_file.specs.Records.{with_sheet}
use Rattle.cell_file.proofs.records.put_sheet.Goals as goal

pub returns : goal.returns
unfolding with_sheet
returns c =
    rw (c.put_ten.ensures, c.numbers-ten.ensures, c.nearest_u64_to_f64.ensures)
