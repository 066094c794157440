-- `arrays::uniform` meets its contract. Assumes nothing.
use Rattle.std.proofs.Common.{arith}
use Rattle.std.proofs.lemmas.List.{length-replicate}
use Rattle.binary64.specs.Literals.{«0·0»}
use Rattle.arrays.proofs.uniform.Goals as goal

pub fill-requires : goal.fill-requires
fill-requires g c = omega (arith, length-replicate g.row.N «0·0»)
