-- `arrays::all_finite` meets its contract. Assumes nothing.
use Rattle.std.proofs.Common.{◌∙◌, rules}
use Rattle.refusal.specs.Ranges.{finite}
use Rattle.arrays.proofs.Parts.{first_part}
use Rattle.arrays.proofs.all_finite.Goals as goal

pub returns : goal.returns
returns c = c.all_pass.ensures finite (λ x r p. search rules) ∙ first_part c.args.c.now finite c.args.n c.requires
