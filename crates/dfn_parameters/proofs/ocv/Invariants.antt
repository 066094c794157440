-- `dfn_parameters::ocv` meets its contract: as many coefficients are taken as turns are made. Assumes nothing.
use Rattle.std.proofs.Common.{◌≡◌}
use Rattle.dfn_parameters.specs.Sides.{horner}
use Rattle.dfn_parameters.proofs.ocv.Given as goal

abbrev pub invariant-loop-c : goal.invariant-loop-c
invariant-loop-c l = l.acc ≡ horner l.coeffs l.theta l.c-index
