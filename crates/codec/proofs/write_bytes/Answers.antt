-- `codec::write_bytes` meets its contract. Assumes nothing.
use Rattle.std.proofs.Common.{◌+◌, refl, ◌∙◌}
use Rattle.codec.proofs.Bytes.{write_is}
use Rattle.codec.proofs.write_bytes.Goals as goal

pub returns : goal.returns
returns c =
    let a = c.args.a in
    write_is c.args.s.now _ a (a + 8) c.args.n refl c.requires (c.copy_from_slice.ensures.after ∙ c.to_le_bytes.ensures)
