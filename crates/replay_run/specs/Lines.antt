-- A recorded load as text: line k is bytes 34 k to 34 k + 33, the interval and then the current, each as the sixteen upper-case hexadecimal digits of its binary64 bits, with
-- a tab between them and a line feed at the end. Definitions, and that sixteen digits are a word. Assumes nothing.
use Rattle.std.specs.Prelude.{ℕ, zero, suc, ◌+◌, ◌*◌, ◌-◌, ◌^◌, ◌<◌, ◌≡◌, refl, Bool, true, false, cond, ◌&&◌, ◌||◌, List, T, leb, eqb, length, get_or}
use Rattle.std.proofs.Common.{sym, subst, arith, pow-suc, lt_of_lt_of_le, zero-lt-suc, leb→le}
use Rattle.std.proofs.Math.Nat.{pow-zero, pow-le-pow_right}
use Rattle.std.specs.Float.{binary64}
use Rattle.std.specs.Float.Ieee.{of_bits}
use Rattle.std.specs.Float.Ieee.Fits.{and_r}
use Rattle.iterate.specs.Iterate.{all_below}
use Rattle.binary64.specs.Literals.{«0·0»}
use Rattle.replay_run.specs.Answers.{LoadLine}

-- ---- digits
-- '0' to '9', 'A' to 'F'
abbrev pub is_decimal : ℕ → Bool
is_decimal b = leb 48 b && leb b 57

abbrev pub is_letter : ℕ → Bool
is_letter b = leb 65 b && leb b 70

abbrev pub is_digit : ℕ → Bool
is_digit b = is_decimal b || is_letter b

-- a digit's value; 0 of any other byte
unfoldable pub digit_of : ℕ → ℕ
digit_of b = cond (is_decimal b) (b - 48) (cond (is_letter b) (b - 55) 0)

-- the number of the k digits from place a on, the highest first
unfoldable pub number_at : List ℕ → ℕ → ℕ → ℕ
number_at s a zero = 0
number_at s a (suc k) = number_at s a k * 16 + digit_of (get_or s (a + k) 0)

-- whether k digits stand from place a on
abbrev pub digits_at : List ℕ → ℕ → ℕ → Bool
digits_at s a k = all_below k (λ j. is_digit (get_or s (a + j) 0))

-- ---- lines
-- the 34 bytes from place a on
unfoldable pub line_from : List ℕ → ℕ → LoadLine
line_from s a = record {
  well_formed = digits_at s a 16 && eqb (get_or s (a + 16) 0) 9 && digits_at s (a + 17) 16 && eqb (get_or s (a + 33) 0) 10;
  dt = of_bits binary64 (number_at s a 16);
  current_a = of_bits binary64 (number_at s (a + 17) 16);
}

-- where fewer than 34 bytes are left
abbrev pub no_line : LoadLine
no_line = record { well_formed = false; dt = «0·0»; current_a = «0·0» }

-- line k
unfoldable pub line_at : List ℕ → ℕ → LoadLine
line_at s k = cond (leb (k * 34 + 34) (length s)) (line_from s (k * 34)) no_line

-- whether no byte is left after k lines
abbrev pub none_left_of : List ℕ → ℕ → Bool
none_left_of s k = leb (length s) (k * 34)

-- ---- sixteen digits are below 2 ^ 64
digit_below : (b : ℕ) → digit_of b < 16
unfolding digit_of
digit_below b = go (is_decimal b) (is_letter b) refl refl
  where
    go : (p q : Bool) → is_decimal b ≡ p → is_letter b ≡ q → cond p (b - 48) (cond q (b - 55) 0) < 16
    go true q e f =
        let h = leb→le b 57 (and_r (leb 48 b) (leb b 57) (subst T (sym e) tt)) in
        omega (arith, h)
    go false true e f =
        let h = leb→le b 70 (and_r (leb 65 b) (leb b 70) (subst T (sym f) tt)) in
        omega (arith, h)
    go false false e f = omega arith

number_below : (s : List ℕ) (a k : ℕ) → number_at s a k < 16 ^ k
unfolding number_at
number_below s a zero = rw pow-zero (omega arith)
number_below s a (suc k) = rw pow-suc (omega (arith, number_below s a k, digit_below (get_or s (a + k) 0)))

pub number_fits : (s : List ℕ) (a k : ℕ) → k < 16 → number_at s a k * 16 + digit_of (get_or s (a + k) 0) < 2 ^ 64
unfolding number_at
number_fits s a k h = lt_of_lt_of_le (number_below s a (suc k)) (pow-le-pow_right (zero-lt-suc 15) h)
