-- `dense::reduce` meets its contract: what it eliminates is the system's copy. Assumes nothing.
use Rattle.std.proofs.Common.{◌∙◌, rules}
use Rattle.dense.specs.Solve.{loaded, reduced}
use Rattle.dense.proofs.Sizes.{zeros_long}
use Rattle.dense.proofs.reduce.Goals as goal

pub load_matrix-requires : goal.load_matrix-requires
load_matrix-requires c =
    (search rules, (zeros_long _ _ c.requires.1.0, search rules))

pub eliminate-requires : goal.eliminate-requires
eliminate-requires c =
    (search rules, c.load_matrix.auto.m ∙ zeros_long _ _ c.requires.1.0)

pub shape_of-m : goal.shape_of-m
shape_of-m c =
    c.eliminate.auto.a ∙ c.load_matrix.auto.m

pub returns : goal.returns
unfolding reduced loaded
returns c =
    rw (← c.requires.1.0, ← c.requires.1.1.0, ← c.load_matrix.ensures, ← c.load_side.ensures, ← c.eliminate.ensures)
