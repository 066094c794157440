-- `codec::read_f64` meets its contract. Assumes nothing.
use Rattle.codec.specs.Words.{float_at}
use Rattle.codec.proofs.read_f64.Goals as goal

pub returns : goal.returns
unfolding float_at
returns c =
    rw (← c.read_word.ensures) c.from_bits.ensures
