-- `dense::substitute` meets its contract: before a turn, the unknowns past it are known. Assumes nothing.
use Rattle.std.proofs.Common.{◌≡◌, ◌-◌}
use Rattle.matrix_rows.specs.Loops.{outcome, try_range}
use Rattle.dense.specs.Substitution.{column_solved}
use Rattle.dense.proofs.substitute.Given as goal

abbrev pub invariant-loop-col : goal.invariant-loop-col
invariant-loop-col l = outcome 0 l.x ≡ try_range (l.n - l.col) (λ j. column_solved l.a (l.n - 1 - j)) l.initial.x
