-- `codec::write_word` meets its contract. Assumes nothing.
use Prim.Native.Nat.{◌+◌, ◌*◌}
use native.Mathlib.Omega.{arith}
use lib.ListN.{length}
use borrow.Author.Tests.{le-leb, lt-leb}
use Rattle.codec.specs.Words.{put_word}
use Rattle.codec.proofs.write_word.Goals as goal

pub returns-then-k-s : goal.returns-then-k-s
unfolding put_word
returns-then-k-s c =
    let write_bytes = c.write_bytes in
    let args = c.args in
    rw (le-leb (args.k * 8 + 8) (length args.s.now) (omega arith)) write_bytes.ensures

pub returns-else-k-s : goal.returns-else-k-s
unfolding put_word
returns-else-k-s c =
    rw (lt-leb (c.args.k * 8 + 8) (length c.args.s.now) (omega arith))
