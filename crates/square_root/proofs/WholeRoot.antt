-- `whole_root n` of `specs/Root.antt` is the whole part of the root of n, and with `cut` it is on the same side of every number of units as the root. Assumes nothing.
use mathlib.Core.Path.{◌≡◌, sym, ◌∙◌, subst}
use mathlib.Core.Bool.{Bool, true, false, not, cond}
use mathlib.Core.Logic.{◌⊎◌, inl, inr}
use Prim.Native.Nat.{ℕ, zero, suc, ◌+◌, ◌*◌, ◌/◌, ◌%◌, ◌^◌, ◌≤◌, ◌<◌}
use native.Mathlib.Nat.{le_trans, le_of_eq, le_of_lt, lt_of_lt_of_le, lt_of_le_of_lt, mul-pos, mul_comm, mul-mul-mul_comm, mul-le-mul_right, mul-lt-mul_of_pos_right, pow-succ', eq-or-lt_of_le, div-lt_iff_lt-mul, zero-lt-suc}
use native.Mathlib.Omega.{arith}
use lib.Dec.{T, leb, eqb, leb→le, nleb→lt, eqb→eq}
use lib.Ieee.{size}
use lib.Ieee.Digits.{size-lt}
use Rattle.square_root.specs.Root.{grown, root_below, whole_root, cut}
use Rattle.square_root.specs.Whole.{NearestWhole}
use Rattle.square_root.proofs.Squares.{square_1, square_2, square_21, square_lt}

abbrev pub IsRoot : ℕ → ℕ → Type 0
IsRoot r n = (r * r ≤ n) × (n < (r + 1) * (r + 1))

grown_is : (r n : ℕ) → IsRoot r (n / 4) → IsRoot (grown r n) n
grown_is r n h = go (leb ((r * 2 + 1) * (r * 2 + 1)) n) (leb→le ((r * 2 + 1) * (r * 2 + 1)) n) (nleb→lt ((r * 2 + 1) * (r * 2 + 1)) n)
  where
    go : (b : Bool) → (T b → (r * 2 + 1) * (r * 2 + 1) ≤ n) → (T (not b) → n < (r * 2 + 1) * (r * 2 + 1)) → IsRoot (cond b (r * 2 + 1) (r * 2)) n
    go true y z = let e = y tt in omega (arith, square_1 r, square_1 (r * 2 + 1), square_21 r)
    go false y z = let e = z tt in omega (arith, square_2 r, square_1 r)

below_is : (k n : ℕ) → n < 4 ^ k → IsRoot (root_below k n) n
unfolding root_below
below_is zero n h = omega arith
below_is (suc k) n h = grown_is (root_below k (n / 4)) n (below_is k (n / 4) ((div-lt_iff_lt-mul (zero-lt-suc 3)).1 (subst (λ (x : ℕ). n < x) (pow-succ' 4 k ∙ mul_comm 4 (4 ^ k)) h)))

two_four : (k : ℕ) → 2 ^ k ≤ 4 ^ k
two_four zero = omega arith
two_four (suc k) = let h = two_four k in omega (arith, pow-succ' 2 k, pow-succ' 4 k)

pub whole_root-is : (n : ℕ) → IsRoot (whole_root n) n
unfolding whole_root
whole_root-is n = below_is (size n) n (lt_of_lt_of_le (size-lt n) (two_four (size n)))

pub cut_le : (r n : ℕ) → cut r n ≤ 1
cut_le r n = go (eqb (r * r) n)
  where
    go : (b : Bool) → cond b 0 1 ≤ 1
    go true = omega arith
    go false = omega arith

-- ---- The root of n = C * g * g against q units of size g, by the square of q.
module _ (C g q n r : ℕ) (e : n ≡ C * (g * g)) (G : 0 < g) (R : IsRoot r n) where
  pub root_ge : q * q ≤ C → q * g * 2 ≤ r * 2
  root_ge h =
      let a : q * g * (q * g) ≤ n = le_trans (le_of_eq (mul-mul-mul_comm q g q g)) (le_trans (mul-le-mul_right (g * g) h) (le_of_eq (sym e))) in
      let b : q * g < r + 1 = square_lt (q * g) (r + 1) (lt_of_le_of_lt a R.1) in
      omega arith

  pub root_lt : C < q * q → r * 2 + 1 < q * g * 2
  root_lt h =
      let a : n < q * g * (q * g) = lt_of_le_of_lt (le_of_eq e) (lt_of_lt_of_le (mul-lt-mul_of_pos_right h (mul-pos G G)) (le_of_eq (sym (mul-mul-mul_comm q g q g)))) in
      let b : r < q * g = square_lt r (q * g) (lt_of_le_of_lt R.0 a) in
      omega arith

  pub root_gt : q * q < C → q * g * 2 < r * 2 + cut r n
  root_gt h =
      let a : q * g * (q * g) < n = lt_of_le_of_lt (le_of_eq (mul-mul-mul_comm q g q g)) (lt_of_lt_of_le (mul-lt-mul_of_pos_right h (mul-pos G G)) (le_of_eq (sym e))) in
      go (eqb (r * r) n) (eqb→eq (r * r) n) a
    where
      go : (b : Bool) → (T b → r * r ≡ n) → q * g * (q * g) < n → q * g * 2 < r * 2 + cond b 0 1
      go true y a = let f = y tt in let b : q * g < r = square_lt (q * g) r (lt_of_lt_of_le a (le_of_eq (sym f))) in omega arith
      go false y a = let b : q * g * 2 ≤ r * 2 = root_ge (le_of_lt h) in omega arith

-- ---- the nearest whole number to the root of v, from the whole root of 4 v
pub parity : (z : ℕ) → (z ≡ z / 2 * 2) ⊎ (z ≡ z / 2 * 2 + 1)
parity z = sides (eq-or-lt_of_le (small z))
  where
    small : (q : ℕ) → q % 2 ≤ 1
    small q = omega arith

    sides : (z % 2 ≡ 1) ⊎ (z % 2 < 1) → (z ≡ z / 2 * 2) ⊎ (z ≡ z / 2 * 2 + 1)
    sides (inl e) = inr (omega arith)
    sides (inr l) = inl (omega arith)

pub half_up : (q v : ℕ) → 1 < q → IsRoot q (4 * v) → NearestWhole ((q + 1) / 2) v
half_up q v l R = go (parity q)
  where
    even : (p : ℕ) → 0 < p → p * 2 * (p * 2) ≤ 4 * v → 4 * v < (p * 2 + 1) * (p * 2 + 1) → NearestWhole p v
    even p h a b = record { low = omega (arith, square_2 p); high = omega (arith, square_21 p) }

    odd : (p : ℕ) → (p * 2 + 1) * (p * 2 + 1) ≤ 4 * v → 4 * v < (p * 2 + 1 + 1) * (p * 2 + 1 + 1) → NearestWhole (p + 1) v
    odd p a b = record { low = omega (arith, square_21 p, square_1 p); high = omega (arith, square_1 (p * 2 + 1), square_21 p, square_1 p) }

    go : (q ≡ q / 2 * 2) ⊎ (q ≡ q / 2 * 2 + 1) → NearestWhole ((q + 1) / 2) v
    go (inl e) =
        let f : (q + 1) / 2 ≡ q / 2 = omega arith in
        subst (λ (n : ℕ). NearestWhole n v) (sym f) (even (q / 2) (omega arith) (subst (λ (x : ℕ). x * x ≤ 4 * v) e R.0) (subst (λ (x : ℕ). 4 * v < (x + 1) * (x + 1)) e R.1))
    go (inr e) =
        let f : (q + 1) / 2 ≡ q / 2 + 1 = omega arith in
        subst (λ (n : ℕ). NearestWhole n v) (sym f) (odd (q / 2) (subst (λ (x : ℕ). x * x ≤ 4 * v) e R.0) (subst (λ (x : ℕ). 4 * v < (x + 1) * (x + 1)) e R.1))

-- the same in squares of twice the middles
module _ (m v : ℕ) (h : NearestWhole (suc m) v) where
  pub above_low : (m * 2 + 1) * (m * 2 + 1) < 4 * v
  above_low = omega (arith, square_21 m, square_1 m, h.low)

  pub below_high : 4 * v < (m * 2 + 3) * (m * 2 + 3)
  below_high = omega (arith, square_1 m, square_21 (suc m), h.high)
