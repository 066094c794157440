-- E of every t that is no NaN is +infinity or a number that is not negative. Assumes nothing.
use mathlib.Core.Path.{◌≡◌, refl, sym, subst}
use mathlib.Core.Bool.{Bool, true, false, not, cond, true≢false}
use Prim.Native.Nat.{ℕ, zero, suc, ◌*◌, ◌^◌, ◌≤◌}
use native.Mathlib.Nat.{le_trans, le-suc, zero-lt-suc}
use lib.Dec.{T, ltb, lit≤}
use lib.Ieee.{Float, nan, inf, fin, binary64, up, down, units, odd, round, mul, neg, lt, is_nan, of_bits}
use lib.Ieee.Fits.{round_is}
use lib.Ieee.Order.{drop, kept}
use lib.Ieee.Scale.{finite}
use Rattle.binary64.specs.Operators.{◌⊕◌, ◌⊗◌, ◌⊘◌, count}
use Rattle.binary64.specs.Range.{Sized, sized, most_wider}
use Rattle.binary64.proofs.RangeOps.{mul_most, div_most, div_count, add_most}
use Rattle.binary64.proofs.RangeTests.{tested_sized}
use Rattle.elementary.specs.Exp.{one, series, squarings, powered, exp_of, highest, lowest, scale}
use Rattle.elementary.proofs.ExpLaws.{exp_high, exp_low, exp_mid, powered_is}
use Rattle.min_max.proofs.ChoiceLaws.{not_lt_le}
use Rattle.elementary.proofs.Constants.{at_1, at_1024}

abbrev pub not_negative : Float → Bool
not_negative nan = false
not_negative (inf s) = not s
not_negative (fin s m e) = not s

-- ---- a square is not negative
odd_plus : (d q k l : ℕ) → T (not_negative (odd d false q k l))
unfolding odd
odd_plus d zero k l = tt
odd_plus d (suc q) k l = tt

units_plus : (q k : ℕ) → T (not_negative (units binary64 false q k))
unfolding units
units_plus q k = go (ltb (q * 2 ^ k) (2 ^ 2098))
  where
    go : (b : Bool) → T (not_negative (cond b (odd 54 false q k 1074) (inf false)))
    go true = odd_plus 54 q k 1074
    go false = tt

round_plus : (a c : ℕ) → T (not_negative (round binary64 false a c))
round_plus a c = subst (λ (z : Float). T (not_negative z)) (sym (round_is binary64 false a c)) (units_plus (kept 53 (a * 2 ^ 1074) c) (drop 53 (a * 2 ^ 1074) c))

square_plus : (x : Float) → is_nan x ≡ false → T (not_negative (x ⊗ x))
unfolding mul is_nan
square_plus nan n = absurd (true≢false n)
square_plus (inf true) n = tt
square_plus (inf false) n = tt
square_plus (fin true m e) n = round_plus (m * up e * (m * up e)) (down e * down e)
square_plus (fin false m e) n = round_plus (m * up e * (m * up e)) (down e * down e)

number : (x : Float) → T (not_negative x) → is_nan x ≡ false
unfolding is_nan
number nan h = absurd h
number (inf s) h = refl
number (fin s m e) h = refl

squarings_plus : (n : ℕ) (x : Float) → is_nan x ≡ false → T (not_negative (squarings (suc n) x))
unfolding squarings
squarings_plus zero x h = square_plus x h
squarings_plus (suc n) x h = squarings_plus n (x ⊗ x) (number (x ⊗ x) (square_plus x h))

-- ---- the series is at most 53/16 in size
series_sized : (k : ℕ) (y a : Float) → k ≤ 2 ^ 53 → Sized y 709 1024 → Sized a 53 16 → Sized (series k y a) 53 16
unfolding series
series_sized zero y a l b w = w
series_sized (suc k) y a l b w = series_sized k y (one ⊕ ((a ⊗ y) ⊘ count (suc k))) (le_trans (le-suc k) l) b (add_most at_1.0 (div_count (mul_most w b 37 16 tt tt) (suc k) 1 37 16 (zero-lt-suc k) l tt tt tt) 53 16 tt tt)

finite_number : (x : Float) → T (finite x) → is_nan x ≡ false
unfolding is_nan
finite_number nan h = absurd h
finite_number (inf s) h = absurd h
finite_number (fin s m e) h = refl

limits : (t : Float) → is_nan t ≡ false → lt highest t ≡ false → lt t lowest ≡ false → Sized t 709 1
unfolding of_bits neg is_nan
limits t n h k = tested_sized lowest t highest tt tt tt (not_lt_le t lowest n refl k) (not_lt_le highest t refl n h)

pub exp_plus : (t : Float) → is_nan t ≡ false → T (not_negative (exp_of t))
exp_plus t n = high (lt highest t) refl
  where
    mid : Sized t 709 1 → T (not_negative (powered t))
    mid h =
        let y = t ⊘ scale in
        let a = series_sized 18 y one (lit≤ tt) (sized (div_most h at_1024 709 1024 tt tt tt)) (sized (most_wider at_1.0 53 16 tt tt)) in
        subst (λ (x : Float). T (not_negative x)) (powered_is t) (squarings_plus 9 (series 18 y one) (finite_number (series 18 y one) a.fine))

    low : (b : Bool) → lt highest t ≡ false → lt t lowest ≡ b → T (not_negative (exp_of t))
    low true h k = subst (λ (x : Float). T (not_negative x)) (sym (exp_low t h k)) (unfold of_bits in tt)
    low false h k = subst (λ (x : Float). T (not_negative x)) (sym (exp_mid t h k)) (mid (limits t n h k))

    high : (b : Bool) → lt highest t ≡ b → T (not_negative (exp_of t))
    high true h = subst (λ (x : Float). T (not_negative x)) (sym (exp_high t h)) tt
    high false h = low (lt t lowest) h refl
