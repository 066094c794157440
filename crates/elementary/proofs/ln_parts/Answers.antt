-- `ln_parts` meets its contract. Assumes nothing.
use mathlib.Core.Path.{refl, sym, ap, ◌∙◌}
use native.Mathlib.Omega.{arith}
use lib.Ieee.{Float}
use Rattle.binary64.specs.Operators.{◌⊕◌, ◌⊖◌, ◌⊗◌, ◌⊘◌}
use Rattle.elementary.specs.Exp.{one}
use Rattle.elementary.specs.Ln.{two, ln2}
use Rattle.elementary.proofs.LnLaws.{terms_end, terms_step, parts_is}
use Rattle.elementary.proofs.ln_parts.Goals as goal

pub loop-j-preserved : goal.loop-j-preserved
loop-j-preserved c =
    let l = c.loop-j in
    terms_step l.j _ l.a c.loop-j-test.true ∙ l.invariant

pub returns : goal.returns
returns c =
    let l = c.loop-j in
    let m = c.args.m in
    let k = c.args.k in
    let s = (m ⊖ one) ⊘ (m ⊕ one) in
    ap (λ (a : Float). (k ⊗ ln2) ⊕ ((two ⊗ s) ⊗ a)) (sym (terms_end l.j (s ⊗ s) l.a (omega arith)) ∙ l.invariant) ∙ parts_is m k s refl
