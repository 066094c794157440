-- `codec::write_f64` meets its contract. Assumes nothing.
use Rattle.codec.specs.Words.{put_float}
use Rattle.codec.proofs.write_f64.Goals as goal

pub returns : goal.returns
unfolding put_float
returns c =
    rw (← c.to_bits.ensures) c.write_word.ensures
