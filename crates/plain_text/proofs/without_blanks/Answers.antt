-- `plain_text::without_blanks` meets its contract. Assumes nothing.
use Rattle.plain_text.specs.Text.{trimmed}
use Rattle.plain_text.proofs.without_blanks.Goals as goal

pub returns : goal.returns
unfolding trimmed
returns c = rw (c.min.ensures, c.blanks_ahead.ensures, c.solid_end-end.ensures.0)
