-- `codec::read_word` meets its contract. Assumes nothing.
use Prim.Native.Nat.{◌+◌, ◌*◌}
use native.Mathlib.Omega.{arith}
use lib.ListN.{length}
use borrow.Author.Tests.{le-leb, lt-leb}
use Rattle.codec.specs.Words.{word_at}
use Rattle.codec.proofs.read_word.Goals as goal

pub returns-then-s-k : goal.returns-then-s-k
unfolding word_at
returns-then-s-k c =
    rw (lt-leb (c.args.k * 8 + 8) (length c.args.s.now) (omega arith))

pub returns : goal.returns
unfolding word_at
returns c =
    rw (le-leb (c.args.k * 8 + 8) (length c.args.s.now) (omega arith)) c.word_from.ensures
