-- `plain_text::blanks_ahead` meets its contract. Assumes nothing.
use Rattle.std.proofs.Common.{not, rules, tests, ◌∙◌}
use Rattle.std.proofs.lemmas.Iterator.{YieldsList-from_slice}
use Rattle.std.proofs.lemmas.Iterator.Search.{position_from_yields_List}
use Rattle.plain_text.specs.Text.{is_blank}
use Rattle.plain_text.proofs.Ahead.{blanks_found}
use Rattle.plain_text.proofs.blanks_ahead.Goals as goal

pub returns : goal.returns
returns c =
    let found = position_from_yields_List (λ b. not (is_blank b)) _ _ c.position.result c.position.ensures.ran (YieldsList-from_slice c.args.s.now cc) (λ x b q k. search (rules, tests)) in
    c.unwrap_or.ensures ∙ blanks_found c.args.s.now c.position.result found
