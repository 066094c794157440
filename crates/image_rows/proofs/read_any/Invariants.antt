-- `image_rows::read_any` meets its contract: k places are read after k turns. Assumes nothing.
use Rattle.std.proofs.Common.{◌≡◌, ◌+◌}
use Rattle.iterate.specs.Iterate.{first_by}
use Rattle.codec.specs.Words.{float_at}
use Rattle.image_rows.proofs.read_any.Given as goal

abbrev pub invariant-loop-i : goal.invariant-loop-i
invariant-loop-i l = l.out ≡ first_by l.i (λ k. float_at l.s (l.at + k)) l.initial.out
