-- `cell_file::records::ready` meets its contract. Assumes nothing.
use Rattle.cell_file.specs.Records.{put_by, with_sheet, ready_with}
use Rattle.cell_file.proofs.records.ready.Goals as goal

pub returns : goal.returns
unfolding put_by with_sheet ready_with
returns c =
    rw (c.put_sheet.ensures, c.put_sheet-half.ensures, c.graphite_anode.ensures, c.put_ten-run.ensures)
