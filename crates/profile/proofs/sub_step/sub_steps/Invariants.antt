-- `profile::sub_step::sub_steps` meets its contract: k sub-steps are made after k turns. Assumes nothing.
use Rattle.std.specs.Prelude.{◌≡◌}
use Rattle.iterate.specs.Iterate.{times}
use Rattle.profile.specs.SubSteps.{sub_step_by}
use Rattle.profile.proofs.sub_step.sub_steps.Given as goal

abbrev pub invariant-loop-k : goal.invariant-loop-k
invariant-loop-k l = l.out ≡ times l.k (sub_step_by l.v l.w) l.initial.out
