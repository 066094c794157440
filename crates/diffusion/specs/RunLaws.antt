-- Lists of sub-steps: after K of them every node is finite, from 0 to M, and within K·M / 2 ^ 49 of the exact scheme's.
use Rattle.std.specs.Prelude.{ℕ}
use Rattle.fraction.specs.Fraction.{Fraction, nat, pow2, inv, ◌*F◌}

-- a sub-step's share of the bound: the 14 / 2 ^ 53 of its rounding are within it
abbrev pub share : Fraction
share = inv (pow2 49)

-- K·M / 2 ^ 49
abbrev pub bound : ℕ → Fraction → Fraction
bound K M = nat K *F M *F share
