-- `codec::word_from` meets its contract. Assumes nothing.
use Rattle.std.proofs.Common.{◌+◌, ◌-◌, arith}
use Rattle.codec.proofs.Bytes.{read_is}
use Rattle.codec.proofs.word_from.Goals as goal

pub returns : goal.returns
returns c =
    let a = c.args.a in
    read_is c.args.s.now c.unwrap-bytes.result a (a + 8 - a) _ (omega arith) (rw c.unwrap-bytes.ensures at c.try_into.ensures).1.same c.from_le_bytes.ensures
