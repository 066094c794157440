-- A binary64 that is finite and above zero, by its bits. Definitions only.
use Rattle.std.specs.Prelude.{ℕ, zero, suc, ◌+◌, ◌*◌, ◌/◌, ◌%◌, ◌^◌, ◌≤◌, ◌<◌, ◌≡◌, Some, None}
use Rattle.std.specs.declared.option.Option.{Option}
use Rattle.square_root.specs.declared.Parts.{Parts}

-- The magnitude, in smallest values 2 ^ -1074, that an exponent's field x and the digits t stand for.
abbrev pub units_of : ℕ → ℕ → ℕ
units_of zero t = t
units_of (suc x) t = (2 ^ 52 + t) * 2 ^ x

-- N smallest values are c * 2 ^ (w - 52) of them, c having 53 digits
pub record Normal (N c w : ℕ) : Type 0 where
  pub same : N * 2 ^ 52 ≡ c * 2 ^ w
  pub from : 2 ^ 52 ≤ c
  pub below : c < 2 ^ 53
  pub top : w ≤ 2097

-- the parts of the number whose bits are b: of one that is finite and above zero, and zeros for every other pattern
pub record PartsOf (b c w : ℕ) : Type 0 where
  pub number : 0 < b → b < 0x7ff0_0000_0000_0000 → Normal (units_of (b / 2 ^ 52) (b % 2 ^ 52)) c w
  pub at_zero : b ≡ 0 → (c ≡ 0) × (w ≡ 0)
  pub beyond : 0x7ff0_0000_0000_0000 ≤ b → (c ≡ 0) × (w ≡ 0)

-- the parts, zeros where there are none
abbrev pub parts_given : Option Parts → Parts
parts_given None = record { c = 0; w = 0 }
parts_given (Some p) = p
