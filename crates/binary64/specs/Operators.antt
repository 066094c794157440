-- The operations of binary64 as operators: a definition written with them reads like the program and rounds once for each sign, in the same order.
-- Definitions only.
use Rattle.std.specs.Prelude.{ℕ, Bool, false, pos, Float}
use Rattle.std.specs.Float.{nan, inf, fin, binary64}
use Rattle.std.specs.Float.Ieee.{add, sub, mul, div, of_bits, of_int}

infixl 50 ◌⊕◌
infixl 50 ◌⊖◌
infixl 60 ◌⊗◌
infixl 60 ◌⊘◌
abbrev pub ◌⊕◌ : Float → Float → Float
x ⊕ y = add binary64 x y

abbrev pub ◌⊖◌ : Float → Float → Float
x ⊖ y = sub binary64 x y

abbrev pub ◌⊗◌ : Float → Float → Float
x ⊗ y = mul binary64 x y

abbrev pub ◌⊘◌ : Float → Float → Float
x ⊘ y = div binary64 x y

-- a literal by its bit pattern. A negative one is `neg (f64 ..)`: the program negates the positive literal.
abbrev pub f64 : ℕ → Float
f64 b = of_bits binary64 b

-- a count as a float, to the nearest
abbrev pub count : ℕ → Float
count n = of_int binary64 (pos n)

-- the sign: true below zero and at -0
abbrev pub negative : Float → Bool
negative nan = false
negative (inf s) = s
negative (fin s m e) = s
