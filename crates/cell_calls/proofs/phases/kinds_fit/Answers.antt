-- `cell_calls::phases::kinds_fit` meets its contract: k phases are tested after k turns. Assumes nothing.
use Rattle.std.proofs.Common.{◌≡◌, refl, arith, add-one, ◌∙◌}
use Rattle.iterate.specs.Iterate.{all_below}
use Rattle.cell_calls.specs.Phases.{kinds_fit}
use Rattle.cell_calls.proofs.phases.kinds_fit.Goals as goal

pub loop-k-init : goal.loop-k-init
unfolding all_below
loop-k-init c = refl

pub loop-k-preserved : goal.loop-k-preserved
unfolding all_below
loop-k-preserved c =
    rw (add-one, c.is_some.ensures ∙ c.listed_phase.ensures.listed, c.read_word.ensures, c.loop-k.invariant)

pub returns : goal.returns
unfolding kinds_fit
returns c =
    let e : c.loop-k.k ≡ 8 = omega arith in
    rw e at c.loop-k.invariant
