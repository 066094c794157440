-- `decimal_spelling::sum_of` meets its contract. Assumes nothing.
use mathlib.Core.Path.{◌≡◌, refl, ap}
use native.Mathlib.Omega.{arith}
use native.Mathlib.Numerals.{add-one}
use borrow.Author.Rules.{rules}
use Rattle.decimal_spelling.specs.Limbs.{sum_by, Carried}
use Rattle.decimal_spelling.proofs.sum_of.Goals as goal

pub loop-i-init : goal.loop-i-init
unfolding sum_by
loop-i-init c =
    (search rules, search rules, refl, refl)

pub loop-i-preserved : goal.loop-i-preserved
unfolding sum_by
loop-i-preserved c =
    (search rules, omega arith, search rules, rw (add-one c.loop-i.i, ← c.loop-i.invariant.3))

pub returns : goal.returns
returns c =
    let e : c.loop-i.i ≡ 20 = omega arith in ap (λ (p : Carried). p.limbs) (rw e at c.loop-i.invariant.3)
