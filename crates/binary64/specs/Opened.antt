-- Each operation on finite operands is its exact result, a sign and a fraction of naturals, handed to `round` once. Assumes nothing.
use Rattle.std.specs.Prelude.{◌≡◌, refl, ℕ, ◌+◌, ◌-◌, ◌*◌, ◌≤◌, ◌<◌, Bool, true, false, not, ◌&&◌, cond, T, ltb, eqb, Float}
use Rattle.std.proofs.Common.{sym, arith, true≢false, eqb→eq, ltb→lt, nltb→le}
use Rattle.std.specs.Float.{nan, inf, fin, Format}
use Rattle.std.specs.Float.Ieee.{up, down, unlike, round, sum, add, sub, mul, div, neg}
use Rattle.std.specs.Float.Ieee.Positive.{num, den, first_pos}
use Rattle.std.specs.Float.Ieee.Scale.{finite}
use Rattle.binary64.specs.Operators.{negative}

pub mul_is : (f : Format) (x y : Float) → T (finite x) → T (finite y) → mul f x y ≡ round f (unlike (negative x) (negative y)) (num x * num y) (den x * den y)
unfolding mul
mul_is f nan y p q = absurd p
mul_is f (inf s) y p q = absurd p
mul_is f (fin s m e) nan p q = absurd q
mul_is f (fin s m e) (inf t) p q = absurd q
mul_is f (fin s m e) (fin t n d) p q = refl

pub div_is : (f : Format) (x y : Float) → T (finite x) → T (finite y) → 0 < num y → div f x y ≡ round f (unlike (negative x) (negative y)) (num x * den y) (num y * den x)
unfolding div
div_is f nan y p q B = absurd p
div_is f (inf s) y p q B = absurd p
div_is f (fin s m e) nan p q B = absurd q
div_is f (fin s m e) (inf t) p q B = absurd q
div_is f (fin s m e) (fin t n d) p q B = go (eqb n 0) (eqb→eq n 0) (first_pos n (up d) B)
  where
    go : (z : Bool) → (T z → n ≡ 0) → 0 < n
        → cond z (cond (eqb m 0) nan (inf (unlike s t))) (round f (unlike s t) (m * up e * down d) (n * up d * down e)) ≡ round f (unlike s t) (m * up e * down d) (n * up d * down e)
    go true h k = absurd (let e = h tt in omega arith)
    go false h k = refl

add_is : (f : Format) (x y : Float) → T (finite x) → T (finite y) → add f x y ≡ sum f (negative x) (num x * den y) (negative y) (num y * den x) (den x * den y)
unfolding add
add_is f nan y p q = absurd p
add_is f (inf s) y p q = absurd p
add_is f (fin s m e) nan p q = absurd q
add_is f (fin s m e) (inf t) p q = absurd q
add_is f (fin s m e) (fin t n d) p q = refl

pub sub_is : (f : Format) (x y : Float) → sub f x y ≡ add f x (neg y)
unfolding sub
sub_is f x y = refl

-- ---- the sum of ±p and ±q as one sign and size
-- the size where the sign is +, and where it is -
abbrev pub plus : Bool → ℕ → ℕ
plus s n = cond s 0 n

abbrev pub minus : Bool → ℕ → ℕ
minus s n = cond s n 0

-- ±p / r ± q / r is ±size / r, rounded. Of like signs it has that sign, and a zero is negative only where the first is.
pub record Summed (f : Format) (z : Float) (s : Bool) (p : ℕ) (t : Bool) (q r : ℕ) : Type 0 where
  pub sign : Bool
  pub size : ℕ
  pub is : z ≡ round f sign size r
  pub adds : plus s p + plus t q + minus sign size ≡ minus s p + minus t q + plus sign size
  pub alike : s ≡ t → sign ≡ s
  pub zero_sign : T sign → size ≡ 0 → T s

summed : (f : Format) (s : Bool) (p : ℕ) (t : Bool) (q r : ℕ) → Summed f (sum f s p t q r) s p t q r
unfolding sum
summed f false p false q r = record { sign = false; size = p + q; is = refl; adds = omega arith; alike = λ e. refl; zero_sign = λ t e. absurd t }
summed f true p true q r = record { sign = true; size = p + q; is = refl; adds = omega arith; alike = λ e. refl; zero_sign = λ t e. tt }
summed f false p true q r = go (ltb p q) (ltb→lt p q) (nltb→le p q)
  where
    go : (z : Bool) → (T z → p < q) → (T (not z) → q ≤ p) → Summed f (cond z (round f true (q - p) r) (round f false (p - q) r)) false p true q r
    go true h k = let l = h tt in record { sign = true; size = q - p; is = refl; adds = omega arith; alike = λ e. absurd (true≢false (sym e)); zero_sign = λ t e. omega arith }
    go false h k = let l = k tt in record { sign = false; size = p - q; is = refl; adds = omega arith; alike = λ e. refl; zero_sign = λ t e. absurd t }
summed f true p false q r = go (ltb p q) (ltb q p) (ltb→lt p q) (nltb→le p q) (nltb→le q p)
  where
    go : (z w : Bool) → (T z → p < q) → (T (not z) → q ≤ p) → (T (not w) → p ≤ q) → Summed f (cond z (round f false (q - p) r) (round f (true && w) (p - q) r)) true p false q r
    go true w h k l = let a = h tt in record { sign = false; size = q - p; is = refl; adds = omega arith; alike = λ e. absurd (true≢false e); zero_sign = λ t e. absurd t }
    go false true h k l = let a = k tt in record { sign = true; size = p - q; is = refl; adds = omega arith; alike = λ e. refl; zero_sign = λ t e. tt }
    go false false h k l = let a = k tt in let b = l tt in record { sign = false; size = p - q; is = refl; adds = omega arith; alike = λ e. absurd (true≢false e); zero_sign = λ t e. absurd t }

pub add_summed : (f : Format) (x y : Float) → T (finite x) → T (finite y) → Summed f (add f x y) (negative x) (num x * den y) (negative y) (num y * den x) (den x * den y)
add_summed f x y p q = rw (add_is f x y p q) (summed f (negative x) (num x * den y) (negative y) (num y * den x) (den x * den y))
