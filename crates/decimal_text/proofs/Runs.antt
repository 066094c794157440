-- A run of digits, digit by digit, with its number cut where it cannot be read. Assumes nothing.
use Rattle.std.proofs.Common.{◌≡◌, ℕ, ◌+◌, ◌-◌, ◌*◌, ◌<◌, ◌≤◌, min, max, Bool, true, false, cond, ◌||◌, eqb, ltb, leb, List, [], ◌∷◌, length, get_or, drop, refl, sym, ◌∙◌, le_trans, le_refl, add-one, arith, drop_of_length-le, drop-cons, ltb-true, leb-true}
use mathlib.Core.Bool.{and-eq-true_iff}
use Rattle.std.proofs.lemmas.Bool.{ltb-false}
use native.Mathlib.Nat.{min-eq_right}
use native.Mathlib.Omega.{min_cases}
use Rattle.decimal_text.specs.Digits.{most, is_digit, is_at, digits_ahead, value_with}

pub digit_low : (b : ℕ) → is_digit b ≡ true → 48 ≤ b
digit_low b h = leb-true 48 b ((and-eq-true_iff (leb 48 b) (leb b 57)).0 h).0

pub digit_high : (b : ℕ) → is_digit b ≡ true → b ≤ 57
digit_high b h = leb-true b 57 ((and-eq-true_iff (leb 48 b) (leb b 57)).0 h).1

pub at_inside : (s : List ℕ) (at a b : ℕ) → is_at s at a b ≡ true → at < length s
at_inside s at a b h = ltb-true at (length s) ((and-eq-true_iff (ltb at (length s)) (eqb (get_or s at 0) a || eqb (get_or s at 0) b)).0 h).0

pub grows : (n : ℕ) (s : List ℕ) → n ≤ value_with n s
unfolding value_with
grows n [] = le_refl n
grows n (b ∷ s) = go (is_digit b) (le_trans (omega arith) (grows (10 * n + (b - 48)) s))
  where
    go : (t : Bool) → n ≤ value_with (10 * n + (b - 48)) s → n ≤ cond t (value_with (10 * n + (b - 48)) s) n
    go true h = h
    go false h = le_refl n

-- digits behind a number that is cut are cut with it
pub value_cut : (n : ℕ) (s : List ℕ) → min (value_with (min n most) s) most ≡ min (value_with n s) most
value_cut n s =
    min_cases n most (min (value_with (min n most) s) most ≡ min (value_with n s) most)
    (λ h e. rw e)
    (λ h e. rw e (min-eq_right (grows most s) ∙ sym (min-eq_right (le_trans h (grows n s)))))

module _ (v : ℕ) (s : List ℕ) (at : ℕ) (h : at < length s) where
  -- a digit more
  pub turn_value : is_digit (get_or s at 0) ≡ true → min (value_with (min (10 * v + (get_or s at 0 - 48)) most) (drop (at + 1) s)) most ≡ min (value_with v (drop at s)) most
  unfolding value_with
  turn_value d = value_cut (10 * v + (get_or s at 0 - 48)) (drop (at + 1) s) ∙ rw (add-one at, drop-cons s at 0 h, d)

  pub turn_end : is_digit (get_or s at 0) ≡ true → at + 1 + digits_ahead (drop (at + 1) s) ≡ at + digits_ahead (drop at s)
  unfolding digits_ahead
  turn_end d = rw (add-one at, drop-cons s at 0 h, d) (omega arith)

  -- no digit more
  pub stop_value : is_digit (get_or s at 0) ≡ false → value_with v (drop at s) ≡ v
  unfolding value_with
  stop_value d = rw (drop-cons s at 0 h, d)

  pub stop_end : is_digit (get_or s at 0) ≡ false → digits_ahead (drop at s) ≡ 0
  unfolding digits_ahead
  stop_end d = rw (drop-cons s at 0 h, d)

-- nothing more
pub over_value : (v : ℕ) (s : List ℕ) (at : ℕ) → length s ≤ at → value_with v (drop at s) ≡ v
unfolding value_with
over_value v s at h = rw (drop_of_length-le s h)

pub over_end : (s : List ℕ) (at : ℕ) → length s ≤ at → digits_ahead (drop at s) ≡ 0
unfolding digits_ahead
over_end s at h = rw (drop_of_length-le s h)

-- where a run from a place on has ended with the text, or has not begun
pub run_end :
    (s : List ℕ) (from at : ℕ) → from ≤ at → (from ≤ length s → at ≤ length s) → length s ≤ at → at + digits_ahead (drop at s) ≡ from + digits_ahead (drop from s)
    → max from (length s) ≡ from + digits_ahead (drop from s)
run_end s from at f within h e = go (ltb (length s) from) refl
  where
    go : (t : Bool) → ltb (length s) from ≡ t → max from (length s) ≡ from + digits_ahead (drop from s)
    go true q = let k : length s < from = ltb-true (length s) from q in omega (arith, over_end s from (omega arith))
    go false q = let k : from ≤ length s = ltb-false (length s) from q in omega (arith, within k, over_end s at h)
