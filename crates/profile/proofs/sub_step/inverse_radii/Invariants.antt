-- `profile::sub_step::inverse_radii` meets its contract: the first i places are made after i turns. Assumes nothing.
use Rattle.std.specs.Prelude.{◌≡◌, replicate}
use Rattle.iterate.specs.Iterate.{first_by}
use Rattle.profile.specs.SubSteps.{inverse_radius}
use Rattle.binary64.specs.Literals.{«0·0»}
use Rattle.profile.proofs.sub_step.inverse_radii.Given as goal

abbrev pub invariant-loop-i : goal.invariant-loop-i
invariant-loop-i l = l.w ≡ first_by l.i (inverse_radius l.dr) (replicate 64 «0·0»)
