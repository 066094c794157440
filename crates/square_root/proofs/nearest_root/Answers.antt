-- `nearest_root` meets its contract. Assumes nothing.
use mathlib.Core.Path.{sym, ◌∙◌}
use native.Mathlib.Omega.{arith}
use Rattle.square_root.proofs.Squares.{nearest_test}
use Rattle.square_root.proofs.Units.{doubled_ge, doubled_lt}
use Rattle.square_root.proofs.nearest_root.Goals as goal

pub overflow_mul-x : goal.overflow_mul-x
overflow_mul-x c =
    omega (arith, doubled_lt c.args.c c.args.odd c.requires.bound.1 c.requires.odd_bound)

pub is_nearest-requires : goal.is_nearest-requires
is_nearest-requires c =
    record { n_bound = c.guess-n.ensures.1; x_bound = doubled_lt c.args.c c.args.odd c.requires.bound.1 c.requires.odd_bound }

pub returns-then-is_nearest : goal.returns-then-is_nearest
returns-then-is_nearest c =
    record { nearest_whole = nearest_test _ _ (sym c.is_nearest.ensures ∙ c.if-is_nearest.true); digits53 = c.guess-n.ensures }

pub by_halving-requires : goal.by_halving-requires
by_halving-requires c =
    record { bound = doubled_ge c.args.c c.args.odd c.requires.bound.0; x_bound = doubled_lt c.args.c c.args.odd c.requires.bound.1 c.requires.odd_bound }
