-- `dfn_voltage::exchange_current` meets its contract. Assumes nothing.
use Rattle.dfn_voltage.proofs.exchange_current.Goals as goal

pub returns : goal.returns
returns c =
    rw (c.max.ensures, c.sqrt-3.ensures.value, c.sqrt-2.ensures.value, c.sqrt.ensures.value)
