-- A literal against the decimal that it stands for: the binary64 nearest to it. Definitions only.
-- Literals lists the literals of all definitions, and one computed theorem says that each is its decimal rounded once.
use Rattle.std.specs.Prelude.{ℕ, ◌^◌, Bool, true, ◌&&◌, List, [], ◌∷◌, eqb, Float, false}
use Rattle.std.specs.Float.{binary64}
use Rattle.std.specs.Float.Ieee.{round, to_bits}

-- digits / 10 ^ places, rounded once
abbrev pub decimal : ℕ → ℕ → Float
decimal digits places = round binary64 false digits (10 ^ places)

pub record Literal : Type 0 where
  pub value : Float
  pub digits : ℕ
  pub places : ℕ

abbrev pub literal : Float → ℕ → ℕ → Literal
literal value digits places = record { value = value; digits = digits; places = places }

-- each value is its decimal, rounded once
unfoldable pub are_decimals : List Literal → Bool
are_decimals [] = true
are_decimals (l ∷ ls) = eqb (to_bits binary64 (decimal l.digits l.places)) (to_bits binary64 l.value) && are_decimals ls
