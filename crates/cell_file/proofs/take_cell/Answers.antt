-- `cell_file::take_cell` meets its contract. Assumes nothing.
use Rattle.std.proofs.Common.{Err, ◌∙◌, refl}
use Rattle.plain_text.specs.Text.{lines_of, after_mark}
use Rattle.cell_file.specs.Answers.{settings_answered}
use Rattle.cell_file.specs.Settings.{faulted}
use Rattle.cell_file.proofs.Lines.{is_fault, fault_stays, cell_long, cell_whole}
use Rattle.cell_file.proofs.take_cell.Goals as goal

pub returns-then-s-gt4095 : goal.returns-then-s-gt4095
unfolding faulted
returns-then-s-gt4095 c =
    rw c.in-Err.is (c.at_fault.ensures ∙ cell_long (settings_answered (Err c.in-Err.e)) c.args.s.now c.if-s-gt4095.true)

pub returns-else-s-gt4095 : goal.returns-else-s-gt4095
returns-else-s-gt4095 c =
    let st = settings_answered (Err c.in-Err.e) in
    let h = is_fault c.in-Err.e.fault in
    rw c.in-Err.is (cell_whole st c.args.s.now st _ c.if-s-gt4095.false (fault_stays (lines_of (after_mark c.args.s.now)) st 1 h) refl (rw h))
