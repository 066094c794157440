-- `arrays::fill` meets its contract. Assumes nothing.
use Rattle.std.proofs.Common.{◌≡◌, length, take, rules}
use Rattle.std.proofs.lemmas.List.{length-take-le}
use Rattle.arrays.proofs.Copies.{front_filled}
use Rattle.arrays.proofs.fill.Goals as goal

pub returns : goal.returns
returns c =
    let a = c.args in
    let cut : length (take a.n a.c.now) ≡ a.n = length-take-le a.n a.c.now c.requires in
    rw (c.fill.ensures.after (λ y k. search rules), cut) (front_filled a.x a.c.now a.n c.requires)
