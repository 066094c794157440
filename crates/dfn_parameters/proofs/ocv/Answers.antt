-- `dfn_parameters::ocv` meets its contract: as many coefficients are taken as turns are made. Assumes nothing.
use Rattle.std.proofs.Common.{◌<◌, refl, add-one, arith}
use Rattle.std.proofs.lemmas.List.{get_or-take, length-take-le}
use lib.Ieee.{nan}
use Rattle.dfn_parameters.specs.Sides.{horner}
use Rattle.dfn_parameters.proofs.ocv.Goals as goal

pub loop-c-init : goal.loop-c-init
unfolding horner
loop-c-init c = refl

pub loop-c-preserved : goal.loop-c-preserved
unfolding horner
loop-c-preserved c =
    let s = c.args in
    let i = c.loop-c.c-index in
    let l : i < s.n = omega (arith, length-take-le s.n s.coeffs.now (omega arith), c.loop-c-test.true) in
    rw (add-one, get_or-take s.n s.coeffs.now i nan l, c.loop-c.invariant)
