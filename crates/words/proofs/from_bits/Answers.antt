-- `words::from_bits` meets its contract: its test is the one that tells a NaN's pattern. Assumes nothing.
use mathlib.Core.Path.{◌≡◌, refl, sym, ◌∙◌, subst}
use mathlib.Core.Bool.{not}
use Prim.Native.Nat.{ℕ, ◌%◌, ◌<◌, ◌≤◌}
use native.Mathlib.Nat.{lt_irrefl, lt_of_lt_of_le}
use lib.Dec.{T, ltb→lt, not_T, lt→ltb}
use lib.Ieee.{Float, nan, inf, fin, binary64, is_nan, of_bits, nan_bits}
use lib.Ieee.Bits.{nan_bits_is, nan_bits_above}
use Rattle.words.proofs.from_bits.Goals as goal

only_nan : (x : Float) → T (is_nan x) → nan ≡ x
unfolding is_nan
only_nan nan h = refl
only_nan (inf s) h = absurd h
only_nan (fin s m e) h = absurd h

nan_literal : of_bits binary64 0x7ff8_0000_0000_0000 ≡ nan
unfolding of_bits
nan_literal = refl

nan_pattern : (n : ℕ) → 0x7ff0_0000_0000_0000 < n % 0x8000_0000_0000_0000 → T (nan_bits binary64 n)
nan_pattern n h = subst T (sym (nan_bits_above binary64 n)) (lt→ltb 0x7ff0_0000_0000_0000 (n % 0x8000_0000_0000_0000) h)

no_nan_pattern : (n : ℕ) → n % 0x8000_0000_0000_0000 ≤ 0x7ff0_0000_0000_0000 → T (not (nan_bits binary64 n))
no_nan_pattern n h =
    not_T (nan_bits binary64 n)
    (λ t. lt_irrefl 0x7ff0_0000_0000_0000 (lt_of_lt_of_le (ltb→lt 0x7ff0_0000_0000_0000 (n % 0x8000_0000_0000_0000) (subst T (nan_bits_above binary64 n) t)) h))

pub returns-then-n-gt9218868437227405312 : goal.returns-then-n-gt9218868437227405312
returns-then-n-gt9218868437227405312 c =
    let n = c.args.n in
    nan_literal ∙ only_nan (of_bits binary64 n) (subst T (nan_bits_is binary64 n) (nan_pattern n c.if-n-gt9218868437227405312.true))

pub float_from_bits-result : goal.float_from_bits-result
float_from_bits-result c =
    no_nan_pattern c.args.n c.if-n-gt9218868437227405312.false
