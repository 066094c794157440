-- `cell_file::records::ten_at` meets its contract. Assumes nothing.
use Rattle.std.proofs.Common.{◌≡◌, ◌+◌, ◌-◌, ◌∙◌, arith}
use Rattle.cell_file.proofs.Tens.{tens_taken}
use Rattle.cell_file.proofs.records.ten_at.Goals as goal

pub returns : goal.returns
returns c =
    let n : c.args.base + 10 - c.args.base ≡ 10 = omega arith in
    c.copy_from_slice.ensures.after ∙ rw n (tens_taken c.args.v.now c.args.base (omega arith))
