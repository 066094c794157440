-- S: the square root of a binary64, rounded once, ties to even. Definitions only.
use Rattle.std.specs.Prelude.{ℕ, zero, suc, ◌+◌, ◌*◌, ◌/◌, ◌^◌, false, cond, leb, eqb, Float}
use Rattle.std.specs.Float.{nan, inf, fin, binary64}
use Rattle.std.specs.Float.Ieee.{up, down, size, round}

-- The whole part of the root of an n below 4 ^ k: twice that of n / 4, and one more if the square of that is still at most n.
abbrev pub grown : ℕ → ℕ → ℕ
grown r n = cond (leb ((r * 2 + 1) * (r * 2 + 1)) n) (r * 2 + 1) (r * 2)

unfoldable pub root_below : ℕ → ℕ → ℕ
root_below zero n = 0
root_below (suc k) n = grown (root_below k (n / 4)) n

unfoldable pub whole_root : ℕ → ℕ
unfolding root_below size
whole_root n = root_below (size n) n

-- 0 where r is the root of n, and 1 where something was cut
abbrev pub cut : ℕ → ℕ → ℕ
cut r n = cond (eqb (r * r) n) 0 1

-- The root of n / 2 ^ 1200, rounded. r is the root in units of 2 ^ -600, cut to a whole number. A half unit more, where something was cut, is on
-- the same side of every tie as the root.
unfoldable pub rounded : ℕ → Float
unfolding whole_root round
rounded n = let r = whole_root n in round binary64 false (r * 2 + cut r n) (2 ^ 601)

-- Every finite binary64 is a whole number of 2 ^ -1200. A zero is its own root, and below zero there is none.
unfoldable pub sqrt_of : Float → Float
unfolding rounded
sqrt_of nan = nan
sqrt_of (inf s) = cond s nan (inf false)
sqrt_of (fin s zero e) = fin s zero e
sqrt_of (fin s (suc m) e) = cond s nan (rounded (suc m * up e * 2 ^ 1200 / down e))
