-- The least whole number not below q, as a u64: 0 for a NaN and for what is not above zero, and 2 ^ 64 - 1 where it would be more. Definitions only.
use Rattle.std.specs.Prelude.{ℕ, ◌+◌, ◌-◌, ◌*◌, ◌/◌, ◌^◌, min, cond, Float}
use Rattle.std.specs.Float.{nan, inf, fin}
use Rattle.std.specs.Float.Ieee.{up, down}

-- the least n with a ≤ n * d
abbrev pub ceil_div : ℕ → ℕ → ℕ
ceil_div a d = (a + (d - 1)) / d

unfoldable pub ceil_of : Float → ℕ
ceil_of nan = 0
ceil_of (inf s) = cond s 0 (2 ^ 64 - 1)
ceil_of (fin s m e) = cond s 0 (min (ceil_div (m * up e) (down e)) (2 ^ 64 - 1))
