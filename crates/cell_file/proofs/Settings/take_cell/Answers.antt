-- `cell_file::Settings::take_cell` meets its contract. Assumes nothing.
use Rattle.std.proofs.Common.{◌≡◌, Err, ◌∙◌, arith, refl, lt-ltb}
use Rattle.std.proofs.lemmas.Grind.{common_steps}
use Rattle.setting_table.specs.Names.{none}
use Rattle.cell_file.specs.Answers.{settings_of, settings_answered}
use Rattle.cell_file.proofs.Lines.{is_fault, mark_length, cell_long, cell_missing, cell_whole}
use Rattle.cell_file.proofs.Settings.take_cell.Goals as goal

pub returns-then-s-gt4095 : goal.returns-then-s-gt4095
returns-then-s-gt4095 c = c.at_fault.ensures ∙ cell_long (settings_of c.args.self) c.args.s.now c.if-s-gt4095.true

pub take_lines-requires : goal.take_lines-requires
take_lines-requires c = rw c.after_mark.ensures (omega (arith, mark_length c.args.s.now))

pub returns-in_err-taken : goal.returns-in_err-taken
returns-in_err-taken c =
    let e = c.in_err-taken.field-0.0 in
    let is : c.from_residual.result ≡ Err c.in_err-taken.field-0.0 = grind (arith, common_steps) in
    rw is (cell_whole (settings_of c.args.self) c.args.s.now (settings_answered (Err e)) _ c.if-s-gt4095.false (rw c.after_mark.ensures at c.in_err-taken.ensures) refl (rw (is_fault e.fault)))

pub returns-in-Some : goal.returns-in-Some
returns-in-Some c =
    c.at_fault-in-Some.ensures
    ∙ cell_missing (settings_of c.args.self) c.args.s.now (settings_of c.in_ok-taken.taken) c.in-Some.place c.if-s-gt4095.false (rw c.after_mark.ensures at c.in_ok-taken.ensures)
    c.in-Some.ensures.place (rw (lt-ltb _ _ c.in-Some.ensures.within))

pub returns-in-None : goal.returns-in-None
returns-in-None c =
    cell_whole (settings_of c.args.self) c.args.s.now (settings_of c.in_ok-taken.taken) none c.if-s-gt4095.false (rw c.after_mark.ensures at c.in_ok-taken.ensures)
    c.in-None.ensures.place refl
