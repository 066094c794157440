-- The parts of a decimal's text, in their order, and the number that it says. Definitions only.
use Rattle.std.specs.Prelude.{ℕ, ◌+◌, ◌-◌, ◌*◌, ◌^◌, min, Bool, true, false, cond, ◌&&◌, ◌||◌, List, length, drop, ◌==◌, nat_le, nat_lt, Float, Option, Some, None, Result, Ok, Err}
use Rattle.std.specs.Float.Ieee.{neg}
use Rattle.decimal_text.specs.Nearest.{nearest_to}
use Rattle.decimal_text.specs.Digits.{most, value_with, digits_end, is_at, past_either}
use Rattle.decimal_text.specs.declared.DecimalError.{DecimalError}
use Rattle.decimal_text.specs.declared.DecimalError.TheVariants.{TooLong, NotDecimal}
use Rattle.decimal_text.specs.declared.Parts.{Parts}

-- ---- a sign, digits, a point, digits, an 'e', a sign, digits: each where it stands, and each may be missing
unfoldable pub whole_from : List ℕ → ℕ
whole_from s = past_either s 0 43 45

unfoldable pub whole_end : List ℕ → ℕ
whole_end s = digits_end s (whole_from s)

unfoldable pub fraction_from : List ℕ → ℕ
fraction_from s = past_either s (whole_end s) 46 46

unfoldable pub fraction_end : List ℕ → ℕ
fraction_end s = digits_end s (fraction_from s)

unfoldable pub exponent_sign : List ℕ → ℕ
exponent_sign s = past_either s (fraction_end s) 101 69

unfoldable pub exponent_from : List ℕ → ℕ
exponent_from s = past_either s (exponent_sign s) 43 45

unfoldable pub exponent_end : List ℕ → ℕ
exponent_end s = digits_end s (exponent_from s)

-- some digit before the 'e', one after it if it is there, and nothing else in the text
unfoldable pub is_decimal : List ℕ → Bool
is_decimal s =
    (exponent_end s == length s) && (nat_lt (whole_from s) (whole_end s) || nat_lt (fraction_from s) (fraction_end s))
    && cond (nat_lt (fraction_end s) (exponent_sign s)) (nat_lt (exponent_from s) (exponent_end s)) (fraction_end s == exponent_end s)

-- all digits before the 'e', as one whole number
unfoldable pub digits_of : List ℕ → ℕ
digits_of s = value_with (value_with 0 (drop (whole_from s) s)) (drop (fraction_from s) s)

unfoldable pub exponent_of : List ℕ → ℕ
exponent_of s = value_with 0 (drop (exponent_from s) s)

-- the parts, with digits and exponent that are cut where they cannot be read any more
unfoldable pub parts_of : List ℕ → Parts
parts_of s = record {
  digits = min (digits_of s) most;
  places = fraction_end s - fraction_from s;
  exponent = min (exponent_of s) most;
  negative = is_at s 0 45 45;
  down = is_at s (exponent_sign s) 45 45;
}

unfoldable pub split_of : List ℕ → Result Parts DecimalError
split_of s = cond (is_decimal s) (Ok (parts_of s)) (Err NotDecimal)

-- digits / 10^places * 10^exponent, or / 10^exponent where it goes down
unfoldable pub scaled_by : ℕ → ℕ → ℕ → Bool → Option Float
scaled_by digits places exponent true = nearest_to digits (places + exponent)
scaled_by digits places exponent false = nearest_to (digits * 10 ^ (exponent - places)) (places - exponent)

unfoldable pub signed : Bool → Option Float → Result Float DecimalError
signed true (Some x) = Ok (neg x)
signed false (Some x) = Ok x
signed negative None = Err TooLong

-- what a text says: the binary64 nearest to its decimal, where it is one that can be read
unfoldable pub number_of : List ℕ → Result Float DecimalError
number_of s =
    cond (is_decimal s)
    (cond (nat_le (exponent_of s) 999)
    (signed (is_at s 0 45 45) (scaled_by (digits_of s) (fraction_end s - fraction_from s) (exponent_of s) (is_at s (exponent_sign s) 45 45)))
    (Err TooLong))
    (Err NotDecimal)
