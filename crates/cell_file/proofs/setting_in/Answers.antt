-- `cell_file::setting_in` meets its contract. Assumes nothing.
use Rattle.std.proofs.Common.{◌≡◌, length, Err, arith, le_refl, le-ltb, lt-ltb}
use Rattle.std.proofs.lemmas.Grind.{common_steps}
use Rattle.cell_file.specs.Settings.{solid_setting, setting_of}
use Rattle.cell_file.proofs.setting_in.Goals as goal

pub returns-then-is_empty : goal.returns-then-is_empty
unfolding solid_setting
returns-then-is_empty c = rw (← c.if-is_empty.ensures)

pub returns-in_err-assign-in-Some : goal.returns-in_err-assign-in-Some
unfolding solid_setting setting_of
returns-in_err-assign-in-Some c =
    let is : c.from_residual.result ≡ Err c.in_err-assign-in-Some.field-0.0 = grind (arith, common_steps) in
    let h = c.in-Some.ensures in
    rw (is, ← c.if-is_empty.ensures, lt-ltb _ _ h.0, ← h.1, ← h.2) c.in_err-assign-in-Some.ensures

pub returns-in_ok-assign-in-Some : goal.returns-in_ok-assign-in-Some
unfolding solid_setting setting_of
returns-in_ok-assign-in-Some c =
    let h = c.in-Some.ensures in
    rw (← c.if-is_empty.ensures, lt-ltb _ _ h.0, ← h.1, ← h.2) c.in_ok-assign-in-Some.ensures

pub returns-in-None : goal.returns-in-None
unfolding solid_setting setting_of
returns-in-None c =
    let n = length c.args.t.now in
    rw (← c.if-is_empty.ensures, c.in-None.ensures, le-ltb n n (le_refl n))
