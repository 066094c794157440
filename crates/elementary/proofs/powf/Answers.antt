-- `powf` meets its contract. Assumes nothing.
use mathlib.Core.Path.{ap, ◌∙◌}
use lib.Ieee.{Float}
use Rattle.binary64.specs.Operators.{◌⊗◌}
use Rattle.elementary.specs.Exp.{exp_of}
use Rattle.elementary.specs.Power.{powf_of}
use Rattle.elementary.proofs.powf.Goals as goal

pub returns : goal.returns
unfolding powf_of
returns c =
    c.exp.ensures ∙ ap (λ (l : Float). exp_of (c.args.b ⊗ l)) c.ln.ensures
