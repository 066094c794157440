-- `cell_file::setting_on` meets its contract. Assumes nothing.
use Rattle.std.proofs.Common.{◌≡◌, ap, ◌∙◌}
use Rattle.plain_text.specs.Text.{before}
use Rattle.cell_file.specs.Settings.{line_setting}
use Rattle.cell_file.proofs.Lines.{before_all, before_some}
use Rattle.cell_file.proofs.setting_on.Goals.{in-Some, in-None}
use Rattle.cell_file.proofs.setting_on.Goals as goal

pub returns : goal.returns
unfolding line_setting
returns c =
    let s = c.args.s.now in
    let e : c.match-split_once.said.now ≡ before 35 s =
    elim c.match-split_once.branch [
      | in-Some w ↦ ap (λ x. x.now) w.said-is ∙ before_some 35 s _ w.in-Some.ensures.1
      | in-None w ↦ ap (λ x. x.now) w.said-is ∙ before_all 35 s w.in-None.ensures
    ] in
    c.setting_in.ensures ∙ rw (c.without_blanks.ensures, e)
