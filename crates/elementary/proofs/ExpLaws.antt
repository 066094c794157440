-- What `exp` and its loops meet their contracts by. Assumes nothing.
use mathlib.Core.Path.{◌≡◌, refl, sym, ap, ◌∙◌, subst}
use mathlib.Core.Bool.{Bool, true, false, ◌||◌, beq, cond, true≢false}
use Prim.Native.Nat.{ℕ, zero, suc, ◌-◌, ◌*◌, ◌^◌, ◌<◌}
use native.Mathlib.Nat.{lt_irrefl, mul-pos, zero-lt-suc, zero-mul, pow-succ'}
use native.Mathlib.Omega.{arith}
use lib.Dec.{T, eqb, eqb→eq, lit<}
use lib.IntN.{ℤ, pos, negsuc}
use lib.Ieee.{Float, nan, inf, fin, binary64, up, down, neg, lt, eq, add, mul, div, round, of_int, of_bits, fits}
use lib.Ieee.Fits.{and_l, up_pos}
use Rattle.binary64.specs.Operators.{◌⊕◌, ◌⊗◌, ◌⊘◌, count}
use Rattle.binary64.specs.Literals.{«0·0»}
use Rattle.elementary.specs.Exp.{one, series, squarings, powered, exp_of, highest, lowest, scale}

pub series_end : (k : ℕ) (y a : Float) → k ≡ 0 → series k y a ≡ a
unfolding series
series_end k y a z = ap (λ (j : ℕ). series j y a) z

pub series_step : (k : ℕ) (y a : Float) → 0 < k → series (k - 1) y (one ⊕ ((a ⊗ y) ⊘ count k)) ≡ series k y a
unfolding series
series_step zero y a h = absurd (lt_irrefl 0 h)
series_step (suc k) y a h = let e : suc k - 1 ≡ k = omega arith in ap (λ (j : ℕ). series j y (one ⊕ ((a ⊗ y) ⊘ count (suc k)))) e

pub squarings_end : (n : ℕ) (a : Float) → n ≡ 0 → squarings n a ≡ a
unfolding squarings
squarings_end n a z = ap (λ (j : ℕ). squarings j a) z

pub squarings_step : (n : ℕ) (a : Float) → 0 < n → squarings (n - 1) (a ⊗ a) ≡ squarings n a
unfolding squarings
squarings_step zero a h = absurd (lt_irrefl 0 h)
squarings_step (suc n) a h = let e : suc n - 1 ≡ n = omega arith in ap (λ (j : ℕ). squarings j (a ⊗ a)) e

-- ---- the three branches
exp_is : (t : Float) (a b : Bool) → lt highest t ≡ a → lt t lowest ≡ b → exp_of t ≡ cond a (inf false) (cond b «0·0» (powered t))
unfolding exp_of
exp_is t a b h k = ap (λ (z : Bool). cond z (inf false) (cond (lt t lowest) «0·0» (powered t))) h ∙ ap (λ (z : Bool). cond a (inf false) (cond z «0·0» (powered t))) k

pub exp_high : (t : Float) → lt highest t ≡ true → exp_of t ≡ inf false
exp_high t h = exp_is t true (lt t lowest) h refl

pub exp_low : (t : Float) → lt highest t ≡ false → lt t lowest ≡ true → exp_of t ≡ «0·0»
exp_low t h k = exp_is t false true h k

pub exp_mid : (t : Float) → lt highest t ≡ false → lt t lowest ≡ false → exp_of t ≡ powered t
exp_mid t h k = exp_is t false false h k

pub powered_is : (t : Float) → squarings 10 (series 18 (t ⊘ scale) one) ≡ powered t
unfolding powered
powered_is t = refl

-- E(0) = 1: what an Arrhenius factor is at the reference temperature
pub exp_0 : exp_of «0·0» ≡ one
unfolding exp_of powered series squarings neg lt add mul div round of_int of_bits
exp_0 = refl

-- ---- of each zero
exp_of_zero : (s : Bool) → exp_of (fin s 0 (pos 0)) ≡ one
unfolding exp_of powered series squarings neg lt add mul div round of_int of_bits
exp_of_zero true = refl
exp_of_zero false = refl

zero_exponent : (s : Bool) (e : ℤ) → T (fits binary64 (fin s 0 e)) → e ≡ pos 0
unfolding fits
zero_exponent s (pos zero) f = refl
zero_exponent s (pos (suc k)) f = absurd (not_one (2 ^ suc k) (2 ^ k) (pow-succ' 2 k) (eqb→eq (2 ^ suc k * 1) 1 f))
  where
    not_one : (x y : ℕ) → x ≡ 2 * y → x * 1 ≡ 1 → ⊥
    not_one x y e h = omega arith
zero_exponent s (negsuc k) f = absurd (not_one (2 ^ suc k) (2 ^ k) (pow-succ' 2 k) (eqb→eq (1 * 2 ^ suc k) 1 f))
  where
    not_one : (x y : ℕ) → x ≡ 2 * y → 1 * x ≡ 1 → ⊥
    not_one x y e h = omega arith

pub exp_zero : (t : Float) → T (fits binary64 t) → eq t «0·0» ≡ true → exp_of t ≡ one
unfolding eq of_bits
exp_zero nan f h = absurd (true≢false (sym h))
exp_zero (inf s) f h = absurd (true≢false (sym h))
exp_zero (fin s zero e) f h = ap (λ (d : ℤ). exp_of (fin s 0 d)) (zero_exponent s e f) ∙ exp_of_zero s
exp_zero (fin s (suc m) e) f h = absurd (lt_irrefl 0 (subst (λ (n : ℕ). 0 < n) nothing (mul-pos (mul-pos (zero-lt-suc m) (up_pos e)) (lit< tt))))
  where
    nothing : suc m * up e * 1 ≡ 0
    nothing =
        let z = 0 * 1 * down e in
        eqb→eq (suc m * up e * 1) z (and_l (eqb (suc m * up e * 1) z) (beq s false || eqb (suc m * up e * 1) 0) (subst T (sym h) tt)) ∙ zero-mul (down e)
