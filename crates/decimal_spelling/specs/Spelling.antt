-- The text of a number: Steele and White's digits, one by one, each the last where what is left is within half the gap to the neighbours. Definitions only.
use Rattle.std.specs.Prelude.{ℕ, zero, suc, ◌+◌, ◌-◌, ◌/◌, ◌%◌, ◌^◌, Bool, true, false, cond, not, ◌&&◌, ◌||◌, List, [], ◌∷◌, ◌++◌, leb, ltb, eqb, Float, get_or, set}
use Rattle.std.specs.Float.{binary64}
use Rattle.std.specs.Float.Ieee.{to_bits, lt}
use Rattle.binary64.specs.Operators.{f64, negative}
use Rattle.binary64.specs.Literals.{«0·0», «0·0001»}
use Rattle.min_max.specs.MinMax.{abs_of}
use Rattle.decimal_spelling.specs.declared.Parts.{Parts}
use Rattle.decimal_spelling.specs.Limbs.{ten_by, sum_by, below_by_of, placed_at, whole_part_of, behind}

-- ---- a line of 4,096 bytes that is written
pub record Written : Type 0 where
  pub line : List ℕ
  pub used : ℕ

abbrev pub written : List ℕ → ℕ → Written
written line used = record { line = line; used = used }

-- b behind the bytes that are there, where there is room
abbrev pub put_byte : Written → ℕ → Written
put_byte w b = cond (ltb w.used 4096) (written (set w.line w.used b) (w.used + 1)) w

unfoldable pub put_all : Written → List ℕ → Written
put_all w [] = w
put_all w (b ∷ s) = put_all (put_byte w b) s

-- ---- a number's parts: m * 2^(at - 1080), and whether its lower neighbour is nearer
unfoldable pub parts_of : ℕ → Parts
parts_of bits =
    cond (eqb (bits / 0x10_0000_0000_0000 % 2048) 0)
    (record { m = bits % 0x10_0000_0000_0000; at = 6; nearer = false })
    (record {
      m = bits % 0x10_0000_0000_0000 + 0x10_0000_0000_0000;
      at = bits / 0x10_0000_0000_0000 % 2048 + 5;
      nearer = eqb (bits % 0x10_0000_0000_0000) 0 && ltb 1 (bits / 0x10_0000_0000_0000 % 2048);
    })

-- ---- a digit: ten times what is left, and ten times half the gap
pub record Turn : Type 0 where
  pub rest : List ℕ
  pub gap : List ℕ
  pub value : ℕ
  pub last : Bool

abbrev pub turn_from : List ℕ → List ℕ → ℕ → Bool → Turn
turn_from rest gap value last = record { rest = rest; gap = gap; value = value; last = last }

-- a digit is one more where what is left comes within half the gap of the next one
abbrev pub turn_with : List ℕ → List ℕ → ℕ → Turn
turn_with ten gap value =
    let low = below_by_of 20 (behind ten) gap in
    let high = below_by_of 20 (placed_at 1 1080) (sum_by 20 (behind ten) gap).limbs in
    let up = high && (not low || leb 0x800_0000_0000_0000 (get_or (behind ten) 17 0)) in
    turn_from (behind ten) gap (cond up (value + 1) value) (cond up true low)

unfoldable pub turn_of : List ℕ → List ℕ → Turn
turn_of rest gap = turn_with (ten_by 20 rest).limbs (ten_by 20 gap).limbs (whole_part_of (ten_by 20 rest).limbs)

abbrev pub glyph : ℕ → ℕ
glyph d = 48 + d % 10

-- digits up to the last one
unfoldable pub digits_by : ℕ → List ℕ → List ℕ → List ℕ
digits_by zero rest gap = []
digits_by (suc n) rest gap = glyph (turn_of rest gap).value ∷ cond (turn_of rest gap).last [] (digits_by n (turn_of rest gap).rest (turn_of rest gap).gap)

-- zeros passed, and the turn of the digit after them
pub record Passed : Type 0 where
  pub zeros : ℕ
  pub turn : Turn

abbrev pub passed : ℕ → List ℕ → List ℕ → ℕ → Bool → Passed
passed zeros rest gap value last = record { zeros = zeros; turn = turn_from rest gap value last }

unfoldable pub pass_zeros : ℕ → ℕ → List ℕ → List ℕ → Passed
pass_zeros zero z rest gap = passed z rest gap 0 false
pass_zeros (suc n) z rest gap =
    cond (eqb (turn_of rest gap).value 0 && not (turn_of rest gap).last)
    (pass_zeros n (z + 1) (turn_of rest gap).rest (turn_of rest gap).gap)
    (record { zeros = z + 1; turn = turn_of rest gap })

-- ---- the text
-- a whole number's last k digits, without zeros at the start
unfoldable pub whole_text : ℕ → ℕ → List ℕ
whole_text zero n = []
whole_text (suc k) n = cond (leb (10 ^ k) n || eqb k 0) (glyph (n / 10 ^ k) ∷ whole_text k n) (whole_text k n)

-- what stands behind a point
unfoldable pub more_text : Bool → List ℕ → List ℕ → List ℕ
more_text last rest gap = cond last [] (46 ∷ digits_by 1100 rest gap)

-- d.ddde-n
unfoldable pub tiny_text : Passed → List ℕ
tiny_text p = glyph p.turn.value ∷ (more_text p.turn.last p.turn.rest p.turn.gap ++ 101 ∷ 45 ∷ whole_text 20 p.zeros)

-- the whole part, and what is behind the point where something is
unfoldable pub plain_text : List ℕ → List ℕ → List ℕ
plain_text a gap = whole_text 20 (whole_part_of a) ++ more_text (below_by_of 20 (behind a) gap) (behind a) gap

-- half the gap to the nearer neighbour
unfoldable pub gap_of : Parts → List ℕ
gap_of p = cond p.nearer (placed_at 1 (p.at - 2)) (placed_at 1 (p.at - 1))

-- a number below 1e-4 has an exponent
unfoldable pub size_text : Float → List ℕ
size_text x =
    let p = parts_of (to_bits binary64 x) in
    cond (lt «0·0» x && lt x «0·0001»)
    (tiny_text (pass_zeros 1100 0 (placed_at p.m p.at) (gap_of p)))
    (plain_text (placed_at p.m p.at) (gap_of p))

-- '?' for what is not below 2^63 in size
unfoldable pub spelling : Float → List ℕ
spelling x = cond (lt (abs_of x) (f64 0x43e0_0000_0000_0000)) (cond (negative x) (45 ∷ size_text (abs_of x)) (size_text (abs_of x))) (63 ∷ [])
