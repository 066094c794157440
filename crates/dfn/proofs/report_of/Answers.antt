-- `dfn::report_of` meets its contract. Assumes nothing.
use Rattle.dfn.proofs.report_of.Goals as goal

pub returns : goal.returns
returns c =
    rw (c.compute_voltage-voltage.ensures, c.largest_change.ensures, c.used_electrolyte.ensures.value)
