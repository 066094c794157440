-- What `fits` says of a number of the format, how many digits a number has, and the difference of two exponents. Assumes nothing.
use Rattle.std.proofs.Common.{◌≡◌, ℕ, suc, ◌-◌, ◌*◌, ◌%◌, ◌^◌, ◌<◌, ◌≤◌, Bool, true, false, cond, ◌&&◌, T, eqb, ltb, leb, ℤ, pos, negsuc, refl, ap, ◌∙◌, le_of_eq, lt_of_lt_of_le, le_of_suc-le-suc, lt_irrefl, lt_of_not-le, arith, le→leb, eqb→eq, ltb→lt, leb→le, pow_mono}
use native.Mathlib.Nat.{pow-succ'}
use lib.Arith.{lt→nleb}
use lib.Ieee.{binary64, fin, up, down, minus, size, fits}
use lib.Ieee.Bits.{cond_no}
use lib.Ieee.Digits.{size-lt, size_reaches}
use lib.Ieee.Fits.{and_l, and_r}

-- ---- m * 2 ^ e is a value of the format
pub record Representable (m : ℕ) (e : ℤ) : Type 0 where
  pub odd : m % 2 ≡ 1
  pub digits : m < 2 ^ 53
  pub least : down e ≤ 2 ^ 1074
  pub most : m * up e < 2 ^ 1024 * down e

pub representable : (s : Bool) (m : ℕ) (e : ℤ) → T (fits binary64 (fin s (suc m) e)) → Representable (suc m) e
unfolding fits
representable s m e t =
    let a = eqb (suc m % 2) 1 in
    let b = ltb (suc m) (2 ^ 53) in
    let c = leb (down e) (2 ^ 1074) in
    let d = ltb (suc m * up e) (2 ^ 1024 * down e) in
    let abc : T (a && b && c) = and_l (a && b && c) d t in
    let ab : T (a && b) = and_l (a && b) c abc in
    record {
      odd = eqb→eq (suc m % 2) 1 (and_l a b ab);
      digits = ltb→lt (suc m) (2 ^ 53) (and_r a b ab);
      least = leb→le (down e) (2 ^ 1074) (and_r (a && b) c abc);
      most = ltb→lt (suc m * up e) (2 ^ 1024 * down e) (and_r (a && b && c) d t);
    }

-- ---- n is between 2 ^ (size n - 1) and twice that
pub size_pos : (n : ℕ) → 0 < n → 0 < size n
size_pos n np = lt_of_not-le (λ (g : size n ≤ 0). lt_irrefl 0 (lt_of_lt_of_le np (le_of_suc-le-suc (lt_of_lt_of_le (size-lt n) (pow_mono g)))))

pub lead_le : (n : ℕ) → 0 < n → 2 ^ (size n - 1) ≤ n
lead_le n np = size_reaches n (size n - 1) (before (size n) (size_pos n np))
  where
    before : (z : ℕ) → 0 < z → z - 1 < z
    before z h = omega arith

pub lead_lt : (n : ℕ) → 0 < n → n < 2 * 2 ^ (size n - 1)
lead_lt n np = lt_of_lt_of_le (size-lt n) (le_of_eq (ap (λ (z : ℕ). 2 ^ z) (suc_pred (size n) (size_pos n np)) ∙ pow-succ' 2 (size n - 1)))
  where
    suc_pred : (z : ℕ) → 0 < z → z ≡ suc (z - 1)
    suc_pred z h = omega arith

-- ---- a - b
pub minus_up : (a b : ℕ) → b ≤ a → minus a b ≡ pos (a - b)
minus_up a b h = go (leb b a) (le→leb b a h)
  where
    go : (t : Bool) → T t → cond t (pos (a - b)) (negsuc (b - suc a)) ≡ pos (a - b)
    go true u = refl
    go false u = absurd u

pub minus_down : (a b : ℕ) → a < b → minus a b ≡ negsuc (b - suc a)
minus_down a b h = cond_no (leb b a) (pos (a - b)) (negsuc (b - suc a)) (lt→nleb b a h)
