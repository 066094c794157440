-- The weights of the average over a particle's volume, and its two sums: for odd n Simpson's rule, for even n not. Definitions only.
use Rattle.std.specs.Prelude.{ℕ, zero, suc, ◌-◌, ◌%◌, cond, ◌||◌, eqb, Float}
use Rattle.binary64.specs.Operators.{◌⊕◌, ◌⊗◌, f64, count}
use Rattle.binary64.specs.Literals.{«0·0», «1·0»}

-- the weight of an inner place: 2 at an even one, 4 at an odd one
unfoldable pub inner_weight : ℕ → Float
inner_weight i = f64 (cond (eqb (i % 2) 0) 0x4000_0000_0000_0000 0x4010_0000_0000_0000)

-- 1 at both ends
unfoldable pub weight : ℕ → ℕ → Float
weight n i = cond (eqb i 0 || eqb i (n - 1)) «1·0» (inner_weight i)

-- w * r * r, r = i * dr
abbrev pub share_by : Float → Float → ℕ → Float
share_by w dr i = w ⊗ (count i ⊗ dr) ⊗ (count i ⊗ dr)

abbrev pub share : ℕ → Float → ℕ → Float
share n dr i = share_by (weight n i) dr i

-- the sums after k places: of the shares, and of the shares with the concentrations
unfoldable pub shares : ℕ → Float → ℕ → Float
shares n dr zero = «0·0»
shares n dr (suc k) = shares n dr k ⊕ share n dr k

unfoldable pub content : ℕ → Float → (ℕ → Float) → ℕ → Float
content n dr c zero = «0·0»
content n dr c (suc k) = content n dr c k ⊕ share n dr k ⊗ c k
