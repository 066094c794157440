-- E, the exponential: the series for t / 1024 to its 18th term, squared ten times. Definitions only.
use Rattle.std.specs.Prelude.{ℕ, zero, suc, false, cond, Float}
use Rattle.std.specs.Float.{inf}
use Rattle.std.specs.Float.Ieee.{neg, lt}
use Rattle.binary64.specs.Operators.{◌⊕◌, ◌⊗◌, ◌⊘◌, count}
use Rattle.binary64.specs.Literals.{«0·0», «1·0», «708·0», «709·0», «1024·0»}

-- 1
abbrev pub one : Float
one = «1·0»

-- 709
abbrev pub highest : Float
highest = «709·0»

-- -708
abbrev pub lowest : Float
lowest = neg «708·0»

-- 1024
abbrev pub scale : Float
scale = «1024·0»

-- a = 1 + (a * y) / k, for k down to 1
unfoldable pub series : ℕ → Float → Float → Float
series zero y a = a
series (suc k) y a = series k y (one ⊕ ((a ⊗ y) ⊘ count (suc k)))

-- a squared n times
unfoldable pub squarings : ℕ → Float → Float
squarings zero a = a
squarings (suc n) a = squarings n (a ⊗ a)

-- the exponential of a t between the limits
unfoldable pub powered : Float → Float
powered t = squarings 10 (series 18 (t ⊘ scale) one)

-- above 709 it is +infinity, below -708 it is +0. A NaN is neither, and stays one.
unfoldable pub exp_of : Float → Float
exp_of t = cond (lt highest t) (inf false) (cond (lt t lowest) «0·0» (powered t))
