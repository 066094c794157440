-- `elementary::arrhenius` meets its contract. Assumes nothing.
use Rattle.elementary.proofs.arrhenius.Goals as goal

pub returns : goal.returns
returns c =
    c.exp.ensures
