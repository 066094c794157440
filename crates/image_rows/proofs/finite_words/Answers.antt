-- `image_rows::finite_words` meets its contract: i words are tested after i turns. Assumes nothing.
use Rattle.std.proofs.Common.{refl, ◌∙◌, arith, add-one}
use Rattle.std.proofs.Common.{◌+◌}
use Rattle.iterate.specs.Iterate.{all_below}
use Rattle.image_rows.specs.Rows.{finite_words}
use Rattle.image_rows.proofs.RowLaws.{word_is}
use Rattle.image_rows.proofs.finite_words.Goals as goal

pub loop-i-init : goal.loop-i-init
unfolding finite_words all_below
loop-i-init c = refl

pub loop-i-preserved : goal.loop-i-preserved
unfolding finite_words all_below
loop-i-preserved c =
    rw (add-one, c.finite_pattern-ok.ensures, c.word_from.ensures ∙ word_is c.args.s.now (c.args.at + c.loop-i.i) (omega arith), c.loop-i.invariant)
