-- `image_rows::finite_words` meets its contract: i words are tested after i turns. Assumes nothing.
use Rattle.std.proofs.Common.{◌≡◌}
use Rattle.image_rows.specs.Rows.{finite_words}
use Rattle.image_rows.proofs.finite_words.Given as goal

abbrev pub invariant-loop-i : goal.invariant-loop-i
invariant-loop-i l = l.ok ≡ finite_words l.s l.at l.i
