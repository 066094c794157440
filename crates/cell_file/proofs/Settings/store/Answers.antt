-- `cell_file::Settings::store` meets its contract. Assumes nothing.
use Rattle.std.proofs.Common.{lt-ltb, eq-eqb, ne_eqb}
use Rattle.cell_file.specs.Settings.{stored, given, faulted}
use Rattle.cell_file.proofs.Settings.store.Goals as goal

pub returns-then-self-k-ne0 : goal.returns-then-self-k-ne0
unfolding stored faulted
returns-then-self-k-ne0 c =
    rw (← c.index-k.ensures.0, lt-ltb _ _ c.index-k.ensures.1, ne_eqb _ _ c.if-self-k-ne0.true)

pub returns : goal.returns
unfolding stored given
returns c = rw (← c.index-k.ensures.0, lt-ltb _ _ c.index-k.ensures.1, eq-eqb _ _ c.if-self-k-ne0.false)
