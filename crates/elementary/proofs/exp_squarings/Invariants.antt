-- `exp_squarings` meets its contract. Assumes nothing.
use mathlib.Core.Path.{◌≡◌}
use Prim.Native.Nat.{◌-◌}
use Rattle.elementary.specs.Exp.{squarings}
use Rattle.elementary.proofs.exp_squarings.Given as goal

abbrev pub invariant-loop : goal.invariant-loop
invariant-loop l = squarings (10 - l.counter) l.p ≡ squarings 10 l.a
