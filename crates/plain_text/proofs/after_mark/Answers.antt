-- `plain_text::after_mark` meets its contract. Assumes nothing.
use Rattle.std.proofs.Common.{refl, ap, ◌∙◌, [], ◌∷◌}
use Rattle.plain_text.specs.Text.{after_mark}
use Rattle.plain_text.proofs.Ahead.{stripped}
use Rattle.plain_text.proofs.after_mark.Goals as goal

pub returns : goal.returns
unfolding after_mark
returns c =
    ap (λ x. x.now) c.unwrap_or.ensures ∙ stripped c.args.s.now (239 ∷ 187 ∷ 191 ∷ []) c.strip_prefix.result c.args.s refl c.strip_prefix.ensures.cases
