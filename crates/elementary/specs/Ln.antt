-- L, the natural logarithm: of x = m * 2 ^ k, with m from 3/4 to 3/2, it is k * c and the series of (m - 1) / (m + 1). Definitions only.
use Rattle.std.specs.Prelude.{ℕ, zero, suc, ◌+◌, ◌-◌, ◌*◌, true, false, cond, ℤ, pos, negsuc, Float}
use Rattle.std.specs.Float.{nan, inf, fin, binary64}
use Rattle.std.specs.Float.Ieee.{size, minus, le, of_int}
use Rattle.binary64.specs.Operators.{◌⊕◌, ◌⊖◌, ◌⊗◌, ◌⊘◌, f64, count}
use Rattle.binary64.specs.Literals.{«1·5», «2·0», «23·0»}
use Rattle.elementary.specs.Exp.{one}

-- 2
abbrev pub two : Float
two = «2·0»

-- 1.5
abbrev pub three_halves : Float
three_halves = «1·5»

-- 23
abbrev pub twenty_three : Float
twenty_three = «23·0»

-- c, the logarithm of 2
abbrev pub ln2 : Float
ln2 = f64 0x3FE6_2E42_FEFA_39EF

-- a = 1 / d + q * a, for d = 2 j - 1 down to 1 in steps of 2
unfoldable pub terms : ℕ → Float → Float → Float
terms zero q a = a
terms (suc j) q a = terms j q ((one ⊘ count (2 * j + 1)) ⊕ (q ⊗ a))

-- from a = 1 / 23, for d = 21, 19, .., 1: k * c + (2 * s) * a
unfoldable pub ln_parts : Float → Float → Float
ln_parts m k =
    let s = (m ⊖ one) ⊘ (m ⊕ one) in
    let q = s ⊗ s in
    (k ⊗ ln2) ⊕ ((two ⊗ s) ⊗ terms 11 q (one ⊘ twenty_three))

abbrev pub raise : ℤ → ℤ
raise (pos k) = pos (suc k)
raise (negsuc zero) = pos 0
raise (negsuc (suc k)) = negsuc k

-- where m is 1.5 or more, it is halved and k raised
unfoldable pub ln_split : Float → ℤ → Float
ln_split m k = cond (le three_halves m) (ln_parts (m ⊘ two) (of_int binary64 (raise k))) (ln_parts m (of_int binary64 k))

-- n * 2 ^ e is mant n * 2 ^ expo n e, with 1 ≤ mant n < 2, subnormals too: n has `size n` binary digits
abbrev pub mant : ℕ → Float
mant n = fin false n (minus 0 (size n - 1))

abbrev pub expo : ℕ → ℤ → ℤ
expo n (pos a) = pos (a + (size n - 1))
expo n (negsuc b) = minus (size n - 1) (suc b)

unfoldable pub ln_of : Float → Float
ln_of nan = nan
ln_of (inf s) = cond s nan (inf false)
ln_of (fin s zero e) = inf true
ln_of (fin s (suc n) e) = cond s nan (ln_split (mant (suc n)) (expo (suc n) e))
