-- `exp` meets its contract. Assumes nothing.
use mathlib.Core.Path.{sym, ap, subst, ◌∙◌}
use lib.Dec.{T}
use lib.Ieee.{of_bits}
use Rattle.elementary.specs.Exp.{squarings}
use Rattle.elementary.proofs.ExpLaws.{exp_zero, exp_high, exp_low, exp_mid, powered_is}
use Rattle.elementary.proofs.exp.Goals as goal

pub returns-then-t : goal.returns-then-t
returns-then-t c =
    sym (exp_zero c.args.t (subst T (sym c.well_formed.0.1) tt) c.if-t.true)

pub returns-then-t-2 : goal.returns-then-t-2
unfolding of_bits
returns-then-t-2 c =
    sym (exp_high c.args.t c.if-t-2.true)

pub returns-then-t-3 : goal.returns-then-t-3
returns-then-t-3 c =
    sym (exp_low c.args.t c.if-t-2.false c.if-t-3.true)

pub returns : goal.returns
returns c =
    c.exp_squarings.ensures ∙ ap (squarings 10) c.short_series.ensures ∙ powered_is c.args.t ∙ sym (exp_mid c.args.t c.if-t-2.false c.if-t-3.false)
