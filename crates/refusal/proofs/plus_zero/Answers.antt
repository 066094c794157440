-- `refusal::plus_zero` meets its contract by what `words::to_bits` ensures. Assumes nothing.
use Rattle.refusal.specs.Ranges.{plus_zero}
use Rattle.refusal.proofs.plus_zero.Goals as goal

pub returns : goal.returns
unfolding plus_zero
returns c =
    rw c.to_bits.ensures
