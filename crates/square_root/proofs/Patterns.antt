-- The bit patterns of binary64: what each stands for. Assumes nothing.
use mathlib.Core.Path.{◌≡◌, refl, sym, ap, ◌∙◌, subst}
use mathlib.Core.Bool.{Bool, true, false, not, cond, true≢false, false≢true}
use mathlib.Core.Logic.{◌⊎◌, inl, inr}
use Prim.Native.Nat.{ℕ, zero, suc, ◌+◌, ◌*◌, ◌/◌, ◌%◌, ◌^◌, ◌≤◌, ◌<◌}
use native.Mathlib.Nat.{lt_irrefl, zero-mul, not-le_of_lt, mod-eq_of_lt, mul-pos, mul-one, eq-or-lt_of_le}
use native.Mathlib.Omega.{arith}
use lib.Dec.{T, ltb, ltb→lt, leb, eqb, leb→le, le→leb, eqb→eq, not_T}
use lib.Pow.{pow_pos}
use lib.Ieee.{Float, nan, inf, fin, binary64, up, odd, of_fields, of_bits, nan_bits, is_nan}
use lib.Ieee.Bits.{is_true, is_false, cond_no, nan_bits_above}
use lib.Ieee.Fits.{down_pos}
use lib.Ieee.Exact.{HasValue, odd_sign}
use Rattle.square_root.specs.Parts.{units_of}
use Rattle.square_root.specs.Standard.{below_zero}

-- ---- the sign, the exponent's field and the digits
pub of_bits_is : (b : ℕ) → of_bits binary64 b ≡ of_fields binary64 (leb (2 ^ 63) b) (b % 2 ^ 63 / 2 ^ 52) (b % 2 ^ 52)
unfolding of_bits
of_bits_is b = refl

pub low_bits : (b : ℕ) → b < 2 ^ 63 → of_bits binary64 b ≡ of_fields binary64 false (b / 2 ^ 52) (b % 2 ^ 52)
low_bits b h =
    of_bits_is b
    ∙ ap (λ (s : Bool). of_fields binary64 s (b % 2 ^ 63 / 2 ^ 52) (b % 2 ^ 52)) (is_false (leb (2 ^ 63) b) (not_T (leb (2 ^ 63) b) (λ (u : T (leb (2 ^ 63) b)). not-le_of_lt h (leb→le (2 ^ 63) b u))))
    ∙ ap (λ (x : ℕ). of_fields binary64 false (x / 2 ^ 52) (b % 2 ^ 52)) (mod-eq_of_lt h)

pub high_bits : (b : ℕ) → 2 ^ 63 ≤ b → of_bits binary64 b ≡ of_fields binary64 true (b % 2 ^ 63 / 2 ^ 52) (b % 2 ^ 52)
high_bits b h = of_bits_is b ∙ ap (λ (s : Bool). of_fields binary64 s (b % 2 ^ 63 / 2 ^ 52) (b % 2 ^ 52)) (is_true (leb (2 ^ 63) b) (le→leb (2 ^ 63) b h))

-- ---- a field of all ones is an infinity or a NaN, any other a number
differ : (x : ℕ) → suc x < 2047 → suc x ≡ 2047 → ⊥
differ x h e = omega arith

pub fields_value : (s : Bool) (x t : ℕ) → x < 2047 → HasValue (of_fields binary64 s x t) s (units_of x t) (2 ^ 1074)
unfolding of_fields
fields_value s zero t h = subst (λ (n : ℕ). HasValue (odd 53 s t 0 1074) s n (2 ^ 1074)) (mul-one t) (odd_sign 53 s t 0 1074)
fields_value s (suc x) t h =
    subst (λ (v : Float). HasValue v s ((2 ^ 52 + t) * 2 ^ x) (2 ^ 1074))
    (sym (cond_no (eqb (suc x) 2047) (cond (eqb t 0) (inf s) nan) (odd 53 s (2 ^ 52 + t) x 1074) (not_T (eqb (suc x) 2047) (λ (u : T (eqb (suc x) 2047)). differ x h (eqb→eq (suc x) 2047 u)))))
    (odd_sign 53 s (2 ^ 52 + t) x 1074)

pub ones_fields : (s : Bool) (t : ℕ) → of_fields binary64 s 2047 t ≡ cond (eqb t 0) (inf s) nan
unfolding of_fields
ones_fields s t = refl

pub units_pos : (x t : ℕ) → 0 < x * 2 ^ 52 + t → 0 < units_of x t
units_pos zero t h = omega arith
units_pos (suc x) t h = mul-pos (big t) (pow_pos x)
  where
    big : (t : ℕ) → 0 < 2 ^ 52 + t
    big t = omega arith

-- ---- finite and above zero
pub positive_value : (b : ℕ) → b < 0x7ff0_0000_0000_0000 → HasValue (of_bits binary64 b) false (units_of (b / 2 ^ 52) (b % 2 ^ 52)) (2 ^ 1074)
positive_value b h = subst (λ (v : Float). HasValue v false (units_of (b / 2 ^ 52) (b % 2 ^ 52)) (2 ^ 1074)) (sym (low_bits b (omega arith))) (fields_value false (b / 2 ^ 52) (b % 2 ^ 52) (omega arith))

pub positive_units : (b : ℕ) → 0 < b → 0 < units_of (b / 2 ^ 52) (b % 2 ^ 52)
positive_units b p = units_pos (b / 2 ^ 52) (b % 2 ^ 52) (omega arith)

below_of : (x : Float) (N : ℕ) → HasValue x true N (2 ^ 1074) → 0 < N → T (below_zero x)
below_of nan N h p = absurd h
below_of (inf s) N h p = absurd h
below_of (fin false m e) N h p = absurd (false≢true h.0)
below_of (fin true zero e) N h p = absurd (lt_irrefl 0 (subst (λ (x : ℕ). 0 < x) (sym h.1 ∙ ap (λ (x : ℕ). x * 2 ^ 1074) (zero-mul (up e)) ∙ zero-mul (2 ^ 1074)) (mul-pos p (down_pos e))))
below_of (fin true (suc m) e) N h p = tt

-- ---- a function F by the patterns that are no number above zero
module _ (F : Float → Float) where
  -- from the pattern of +infinity on, below 2 ^ 63: where F keeps +infinity and NaN
  pub at_top : F nan ≡ nan → F (inf false) ≡ inf false → (b : ℕ) → 0x7ff0_0000_0000_0000 ≤ b → b < 2 ^ 63 → F (of_bits binary64 b) ≡ of_bits binary64 b
  at_top n i b h k = ap F e ∙ kept (eqb (b % 2 ^ 52) 0) ∙ sym e
    where
      field : (b : ℕ) → 0x7ff0_0000_0000_0000 ≤ b → b < 2 ^ 63 → b / 2 ^ 52 ≡ 2047
      field b h k = omega arith

      e : of_bits binary64 b ≡ cond (eqb (b % 2 ^ 52) 0) (inf false) nan
      e = low_bits b k ∙ ap (λ (x : ℕ). of_fields binary64 false x (b % 2 ^ 52)) (field b h k) ∙ ones_fields false (b % 2 ^ 52)

      kept : (t : Bool) → F (cond t (inf false) nan) ≡ cond t (inf false) nan
      kept true = i
      kept false = n

  -- above the pattern of -0: where F is NaN below zero
  pub at_negative : F nan ≡ nan → ((x : Float) → T (below_zero x) → F x ≡ nan) → (b : ℕ) → 2 ^ 63 < b → b < 2 ^ 64 → F (of_bits binary64 b) ≡ nan
  at_negative n v b h k = ap F (high_bits b (omega arith)) ∙ go (eq-or-lt_of_le (most b k))
    where
      most : (b : ℕ) → b < 2 ^ 64 → b % 2 ^ 63 / 2 ^ 52 ≤ 2047
      most b h = omega arith

      none : (t : Bool) → F (cond t (inf true) nan) ≡ nan
      none true = v (inf true) tt
      none false = n

      go : (b % 2 ^ 63 / 2 ^ 52 ≡ 2047) ⊎ (b % 2 ^ 63 / 2 ^ 52 < 2047) → F (of_fields binary64 true (b % 2 ^ 63 / 2 ^ 52) (b % 2 ^ 52)) ≡ nan
      go (inl e) = ap (λ (x : ℕ). F (of_fields binary64 true x (b % 2 ^ 52))) e ∙ ap F (ones_fields true (b % 2 ^ 52)) ∙ none (eqb (b % 2 ^ 52) 0)
      go (inr l) = v (of_fields binary64 true (b % 2 ^ 63 / 2 ^ 52) (b % 2 ^ 52)) (below_of (of_fields binary64 true (b % 2 ^ 63 / 2 ^ 52) (b % 2 ^ 52)) (units_of (b % 2 ^ 63 / 2 ^ 52) (b % 2 ^ 52)) (fields_value true (b % 2 ^ 63 / 2 ^ 52) (b % 2 ^ 52) l) (units_pos (b % 2 ^ 63 / 2 ^ 52) (b % 2 ^ 52) (omega arith)))

-- ---- patterns that are no NaN's, and a NaN
pub no_nan_bits : (n : ℕ) → n ≤ 0x7ff0_0000_0000_0000 → T (not (nan_bits binary64 n))
no_nan_bits n h = subst (λ (b : Bool). T (not b)) (sym (nan_bits_above binary64 n)) (not_T (ltb 0x7ff0_0000_0000_0000 (n % 2 ^ 63)) (λ u. no n h (ltb→lt 0x7ff0_0000_0000_0000 (n % 2 ^ 63) u)))
  where
    no : (n : ℕ) → n ≤ 0x7ff0_0000_0000_0000 → 0x7ff0_0000_0000_0000 < n % 2 ^ 63 → ⊥
    no n h k = omega arith

-- the test `is_nan`, and the NaN that the program returns
pub nan_is : (x : Float) → is_nan x ≡ true → x ≡ nan
unfolding is_nan
nan_is nan h = refl
nan_is (inf s) h = absurd (true≢false (sym h))
nan_is (fin s m e) h = absurd (true≢false (sym h))

pub nan_literal : of_bits binary64 0x7ff8_0000_0000_0000 ≡ nan
unfolding of_bits
nan_literal = refl
