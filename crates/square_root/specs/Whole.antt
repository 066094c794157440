-- Whole numbers that the square root is worked out in. Definitions only.
use Rattle.std.specs.Prelude.{ℕ, ◌+◌, ◌*◌, ◌^◌, ◌≤◌, ◌<◌, ◌≡◌}

-- the square of n in two words
pub record Squared (n high low : ℕ) : Type 0 where
  pub same : high * 2 ^ 52 + low ≡ n * n
  pub high_most : high ≤ 2 ^ 55
  pub low_most : low < 2 ^ 53

-- n is the whole number nearest to the root of v: v is between the squares of n - 1/2 and n + 1/2
pub record NearestWhole (n v : ℕ) : Type 0 where
  pub low : n * n < v + n
  pub high : v ≤ n * n + n

-- a number of 53 digits, or the one after
abbrev pub Digits53 : ℕ → Type 0
Digits53 n = (2 ^ 52 ≤ n) × (n ≤ 2 ^ 53)
