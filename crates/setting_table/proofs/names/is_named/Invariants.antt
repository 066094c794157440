-- `setting_table::names::is_named` meets its contract. Assumes nothing.
use Rattle.std.proofs.Common.{◌≡◌, eqb}
use Rattle.iterate.specs.Iterate.{all_below}
use Rattle.setting_table.specs.Names.{letter_of, padded_at}
use Rattle.setting_table.proofs.names.is_named.Given as goal

abbrev pub invariant-loop-j : goal.invariant-loop-j
invariant-loop-j l = l.same ≡ all_below l.j (λ i. eqb (padded_at l.s i) (letter_of l.fn.k i))
