-- Rounding keeps the order, whatever the signs, subnormal results and overflow to an infinity included. Assumes nothing.
use Rattle.std.specs.Prelude.{◌≡◌, refl, ℕ, zero, suc, ◌+◌, ◌*◌, ◌<◌, Bool, true, false, T, Float}
use Rattle.std.proofs.Common.{sym, ◌∙◌, zero-le, le_refl, mul-pos, zero-mul, zero-lt-suc, arith, true≢false, pow_pos}
use Rattle.std.specs.Float.{nan, inf, fin, Format}
use Rattle.std.specs.Float.Ieee.{prec, emax, low, round, le}
use Rattle.std.specs.Float.Ieee.Exact.{HasValue, round_exact}
use Rattle.std.specs.Float.Ieee.Order.{round_mono}
use Rattle.std.specs.Float.Ieee.Positive.{num, den}
use Rattle.binary64.specs.Operators.{negative}
use Rattle.binary64.specs.Order.{Below, below→le, value_finite, value_sign, value_cross, neg_le}
use Rattle.binary64.specs.Sign.{round_neg, round_sign}

-- ---- zeros
first_zero : (a c : ℕ) → 0 < c → a * c ≡ 0 → a ≡ 0
first_zero zero c C h = refl
first_zero (suc a) c C h = absurd (let x : 0 < suc a * c = mul-pos (zero-lt-suc a) C in omega arith)

zero_value : (f : Format) (s : Bool) (c : ℕ) → 0 < c → HasValue (round f s 0 c) s 0 c
zero_value f s c C = round_exact f s 0 c 0 0 C (pow_pos (prec f)) (pow_pos (low f + suc (emax f))) (simp zero-mul)

zeros : (x y : Float) (c d : ℕ) → 0 < c → 0 < d → HasValue x false 0 c → HasValue y true 0 d → T (le x y)
zeros x y c d C D v w =
    below→le x y (value_finite x false 0 c v) (value_finite y true 0 d w)
    (rw (value_sign x false 0 c v, value_sign y true 0 d w, first_zero (num x) c C (value_cross x false 0 c v ∙ zero-mul (den x)), first_zero (num y) d D (value_cross y true 0 d w ∙ zero-mul (den y))) (simp zero-mul zero-le))

-- ---- what is negative is at most what is not, NaN apart
across : (x y : Float) → negative x ≡ true → negative y ≡ false → T (le y y) → T (le x y)
unfolding le
across nan y s t h = absurd (true≢false (sym s))
across (inf false) y s t h = absurd (true≢false (sym s))
across (inf true) nan s t h = absurd h
across (inf true) (inf false) s t h = tt
across (inf true) (inf true) s t h = absurd (true≢false t)
across (inf true) (fin u n d) s t h = tt
across (fin false m e) y s t h = absurd (true≢false (sym s))
across (fin true m e) nan s t h = absurd h
across (fin true m e) (inf false) s t h = tt
across (fin true m e) (inf true) s t h = absurd (true≢false t)
across (fin true m e) (fin true n d) s t h = absurd (true≢false t)
across (fin true m e) (fin false n d) s t h = below→le (fin true m e) (fin false n d) tt tt zero-le

pub round_below : (f : Format) (s t : Bool) (a c b d : ℕ) → 0 < c → 0 < d → Below s (a * d) t (b * c) → T (le (round f s a c) (round f t b d))
round_below f false false a c b d C D h = round_mono f a c b d C D h
round_below f false true a c b d C D h =
    let x : a * d ≡ 0 = omega arith in
    let y : b * c ≡ 0 = omega arith in
    rw (first_zero a d D x, first_zero b c C y) (zeros (round f false 0 c) (round f true 0 d) c d C D (zero_value f false c C) (zero_value f true d D))
round_below f true false a c b d C D h = across (round f true a c) (round f false b d) (round_sign f true a c) (round_sign f false b d) (round_mono f b d b d D D (le_refl (b * d)))
round_below f true true a c b d C D h = rw (round_neg f a c, round_neg f b d) (neg_le (round f false b d) (round f false a c) (round_mono f b d a c D C h))
