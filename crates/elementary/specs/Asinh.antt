-- H, the inverse hyperbolic sine: by the logarithm, and below 2 ^ -10 in size, where a + S(a * a + 1) would lose the last places of a, by two terms of the Taylor series. Definitions only.
use Rattle.std.specs.Prelude.{Bool, cond, Float}
use Rattle.std.specs.Float.Ieee.{neg, lt}
use Rattle.binary64.specs.Operators.{◌⊕◌, ◌⊖◌, ◌⊗◌, ◌⊘◌, negative}
use Rattle.binary64.specs.Literals.{«0·0009765625», «6·0»}
use Rattle.square_root.specs.Root.{sqrt_of}
use Rattle.elementary.specs.Exp.{one}
use Rattle.elementary.specs.Ln.{ln_of}
use Rattle.min_max.specs.MinMax.{abs_of}

abbrev pub asinh_at : Float → Float
asinh_at a = ln_of (a ⊕ sqrt_of ((a ⊗ a) ⊕ one))

-- L(a + S(a * a + 1)) with the sign of x, a = |x|
unfoldable pub asinh_log : Float → Float
asinh_log x = cond (negative x) (neg (asinh_at (abs_of x))) (asinh_at (abs_of x))

-- x * (1 - (x * x) / 6)
unfoldable pub asinh_taylor : Float → Float
asinh_taylor x = x ⊗ (one ⊖ ((x ⊗ x) ⊘ «6·0»))

-- |x| < 2 ^ -10, which no NaN is
abbrev pub is_small : Float → Bool
is_small x = lt (abs_of x) «0·0009765625»

unfoldable pub asinh_of : Float → Float
asinh_of x = cond (is_small x) (asinh_taylor x) (asinh_log x)
