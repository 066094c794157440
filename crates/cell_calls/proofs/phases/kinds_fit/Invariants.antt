-- `cell_calls::phases::kinds_fit` meets its contract: k phases are tested after k turns. Assumes nothing.
use Rattle.std.proofs.Common.{◌≡◌, ◌+◌, ◌*◌, ◌||◌, leb}
use Rattle.iterate.specs.Iterate.{all_below}
use Rattle.codec.specs.Words.{word_at}
use Rattle.image_layout.specs.Layout.{phase_kind, phase_words}
use Rattle.cell_calls.specs.Phases.{kind_listed}
use Rattle.cell_calls.proofs.phases.kinds_fit.Given as goal

abbrev pub invariant-loop-k : goal.invariant-loop-k
invariant-loop-k l = l.fit ≡ all_below l.k (λ j. leb l.count j || kind_listed (word_at l.s (j * phase_words + phase_kind)))
