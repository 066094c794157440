-- `arrays::places_pass` meets its contract: the used places and the others are tested apart. Assumes nothing.
use Rattle.std.proofs.Common.{rules}
use Rattle.refusal.specs.Ranges.{plus_zero}
use Rattle.arrays.proofs.Parts.{parts}
use Rattle.arrays.proofs.places_pass.Goals as goal

pub returns : goal.returns
returns g c = λ t h. rw (c.all_pass.ensures t h, c.all_pass-2.ensures plus_zero (λ x r p. search rules)) (parts c.args.c.now t c.args.n c.min-used.result c.min-used.ensures)
