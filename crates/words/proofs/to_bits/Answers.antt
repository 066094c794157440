-- `words::to_bits` meets its contract: a NaN is the one NaN. Assumes nothing.
use mathlib.Core.Path.{◌≡◌, refl, sym, ◌∙◌}
use mathlib.Core.Bool.{true, true≢false}
use lib.Ieee.{Float, nan, inf, fin, binary64, is_nan, to_bits}
use Rattle.words.proofs.to_bits.Goals as goal

nan_pattern : (x : Float) → is_nan x ≡ true → 0x7ff8_0000_0000_0000 ≡ to_bits binary64 x
unfolding is_nan to_bits
nan_pattern nan h = refl
nan_pattern (inf s) h = absurd (true≢false (sym h))
nan_pattern (fin s m e) h = absurd (true≢false (sym h))

pub returns-then-is_nan : goal.returns-then-is_nan
returns-then-is_nan c =
    nan_pattern c.args.x (sym c.is_nan.ensures.value ∙ c.if-is_nan.true)
