-- A run of digits in a list of bytes: where it ends and its number. Definitions only.
use Rattle.std.specs.Prelude.{ℕ, zero, suc, ◌+◌, ◌-◌, ◌*◌, Bool, cond, ◌&&◌, ◌||◌, List, [], ◌∷◌, length, drop, ◌==◌, nat_le, nat_lt, slice_index}

-- from here on a number of digits is too long to be read
abbrev pub most : ℕ
most = 1000000000000000000

-- '0' to '9'
abbrev pub is_digit : ℕ → Bool
is_digit b = nat_le 48 b && nat_le b 57

-- how many digits a text begins with
unfoldable pub digits_ahead : List ℕ → ℕ
digits_ahead [] = zero
digits_ahead (b ∷ s) = cond (is_digit b) (suc (digits_ahead s)) zero

-- the number n with the digits behind it that a text begins with: 29 with "8.15" is 298
unfoldable pub value_with : ℕ → List ℕ → ℕ
value_with n [] = n
value_with n (b ∷ s) = cond (is_digit b) (value_with (10 * n + (b - 48)) s) n

-- the first place from `from` on that has no digit
abbrev pub digits_end : List ℕ → ℕ → ℕ
digits_end s from = from + digits_ahead (drop from s)

-- whether a or b stands at a place
abbrev pub is_at : List ℕ → ℕ → ℕ → ℕ → Bool
is_at s at a b = nat_lt at (length s) && (slice_index s at == a || slice_index s at == b)

-- the place after a or b, where one of them stands at this one
abbrev pub past_either : List ℕ → ℕ → ℕ → ℕ → ℕ
past_either s at a b = cond (is_at s at a b) (at + 1) at
