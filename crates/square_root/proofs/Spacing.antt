-- The values of the format beside n * 2 ^ k, and their middles with it, against the square 4 v of twice the root that n is nearest to. Assumes nothing.
use mathlib.Core.Path.{◌≡◌, sym, ap, ◌∙◌}
use mathlib.Core.Logic.{◌⊎◌, inl, inr}
use Prim.Native.Nat.{ℕ, suc, ◌+◌, ◌-◌, ◌*◌, ◌^◌, ◌≤◌, ◌<◌}
use native.Mathlib.Nat.{le_trans, le_of_eq, le_of_lt, lt_of_lt_of_le, lt_of_le_of_lt, lt_irrefl, lt_of_not-le, lt_of_mul-lt-mul_right, mul-le-mul, mul-pos, mul_assoc, mul_right_comm, mul-mul-mul_comm, mul-le-mul_right, mul-lt-mul_of_pos_right, add-mul, eq-or-lt_of_le}
use native.Mathlib.Decide.{dec_le}
use native.Mathlib.Omega.{arith}
use lib.Pow.{pow_pos, pow-add, pow_mono}
use Rattle.square_root.proofs.Squares.{square_1}

-- ---- M * 2 ^ j, for an M of 53 digits, is a multiple of 2 ^ k, or is below 2 ^ 52 * 2 ^ k
multiple : (M j k : ℕ) → M < 2 ^ 53 → ((a : ℕ) × (M * 2 ^ j ≡ a * 2 ^ k)) ⊎ (M * 2 ^ j < 2 ^ 52 * 2 ^ k)
multiple M j k h = elim (dec_le k j) [
  | yes l ↦ inl (M * 2 ^ (j - k), ap (λ (x : ℕ). M * 2 ^ x) (back j k l) ∙ ap (λ (x : ℕ). M * x) (pow-add 2 (j - k) k) ∙ sym (mul_assoc M (2 ^ (j - k)) (2 ^ k)))
  | no n ↦
      inr (lt_of_lt_of_le (mul-lt-mul_of_pos_right h (pow_pos j))
      (le_trans (le_of_eq (sym (pow-add 2 53 j))) (le_trans (pow_mono (next j k (lt_of_not-le n))) (le_of_eq (pow-add 2 52 k)))))
]
  where
    back : (j k : ℕ) → k ≤ j → j ≡ j - k + k
    back j k h = omega arith

    next : (j k : ℕ) → suc j ≤ k → 53 + j ≤ 52 + k
    next j k h = omega arith

next_above : (M j k q : ℕ) → M < 2 ^ 53 → 2 ^ 52 ≤ q → q * 2 ^ k < M * 2 ^ j → suc q * 2 ^ k ≤ M * 2 ^ j
next_above M j k q h l g = elim (multiple M j k h) [
  | inl (a, e) ↦ le_trans (mul-le-mul_right (2 ^ k) (lt_of_mul-lt-mul_right (2 ^ k) (lt_of_lt_of_le g (le_of_eq e)))) (le_of_eq (sym e))
  | inr s ↦ absurd (lt_irrefl (q * 2 ^ k) (lt_of_lt_of_le g (le_trans (le_of_lt s) (mul-le-mul_right (2 ^ k) l))))
]

next_below_lem : (M j k p : ℕ) → M < 2 ^ 53 → 2 ^ 52 ≤ p → M * 2 ^ j < suc p * 2 ^ k → M * 2 ^ j ≤ p * 2 ^ k
next_below_lem M j k p h l g = elim (multiple M j k h) [
  | inl (a, e) ↦ le_trans (le_of_eq e) (mul-le-mul_right (2 ^ k) (pred_le a p (lt_of_mul-lt-mul_right (2 ^ k) (lt_of_le_of_lt (le_of_eq (sym e)) g))))
  | inr s ↦ le_trans (le_of_lt s) (mul-le-mul_right (2 ^ k) l)
]
  where
    pred_le : (a p : ℕ) → a < suc p → a ≤ p
    pred_le a p h = omega arith

-- ---- squares of s against C * G * G, for a z with z * z near C
below_by : (C z G s : ℕ) → z * z ≤ C → s < z * G → s * s < C * (G * G)
below_by C z G s h k =
    let l : (s + 1) * (s + 1) ≤ z * G * (z * G) = mul-le-mul (one_more s (z * G) k) (one_more s (z * G) k) in
    lt_of_lt_of_le (omega (arith, square_1 s)) (le_trans l (le_trans (le_of_eq (mul-mul-mul_comm z G z G)) (mul-le-mul_right (G * G) h)))
  where
    one_more : (s x : ℕ) → s < x → s + 1 ≤ x
    one_more s x h = omega arith

below_at : (C z G s : ℕ) → 0 < G → z * z < C → s ≤ z * G → s * s < C * (G * G)
below_at C z G s p h k = lt_of_le_of_lt (mul-le-mul k k) (lt_of_le_of_lt (le_of_eq (mul-mul-mul_comm z G z G)) (mul-lt-mul_of_pos_right h (mul-pos p p)))

above_at : (C z G s : ℕ) → 0 < G → C < z * z → z * G ≤ s → C * (G * G) < s * s
above_at C z G s p h k = lt_of_lt_of_le (mul-lt-mul_of_pos_right h (mul-pos p p)) (le_trans (le_of_eq (sym (mul-mul-mul_comm z G z G))) (mul-le-mul k k))

odd_times : (x G : ℕ) → (x * 2 + 1) * G ≡ x * G * 2 + G
odd_times x G = add-mul (x * 2) 1 G ∙ ap (λ (y : ℕ). y + 1 * G) (mul_right_comm x 2 G) ∙ omega arith

suc_times : (x G : ℕ) → suc x * G ≡ x * G + G
suc_times x G = omega (arith, add-mul x 1 G)

-- ---- the middle of n = m + 1 units and M * 2 ^ j
module _ (C m k M j : ℕ) (big : 2 ^ 52 ≤ suc m) (small : M < 2 ^ 53) where
  pub units_below : 2 ^ 106 ≤ C → (m * 2 + 1) * (m * 2 + 1) < C → M * 2 ^ j < suc m * 2 ^ k → (suc m * 2 ^ k + M * 2 ^ j) * (suc m * 2 ^ k + M * 2 ^ j) < C * (2 ^ k * 2 ^ k)
  units_below c h l = elim (eq-or-lt_of_le big) [
    | inl e ↦
        let f : suc m * 2 ^ k ≡ 2 ^ 52 * 2 ^ k = ap (λ (x : ℕ). x * 2 ^ k) (sym e) in
        let g : suc m * 2 ^ k + M * 2 ^ j < 2 ^ 53 * 2 ^ k = sum_lt (suc m * 2 ^ k) (M * 2 ^ j) (2 ^ k) f l in
        below_by C (2 ^ 53) (2 ^ k) (suc m * 2 ^ k + M * 2 ^ j) c g
    | inr b ↦
        let n : M * 2 ^ j ≤ m * 2 ^ k = next_below_lem M j k m small (pred_le m b) l in
        below_at C (m * 2 + 1) (2 ^ k) (suc m * 2 ^ k + M * 2 ^ j) (pow_pos k) h (omega (arith, odd_times m (2 ^ k), suc_times m (2 ^ k)))
  ]
    where
      sum_lt : (a b G : ℕ) → a ≡ 2 ^ 52 * G → b < a → a + b < 2 ^ 53 * G
      sum_lt a b G e h = omega arith

      pred_le : (m : ℕ) → 2 ^ 52 < suc m → 2 ^ 52 ≤ m
      pred_le m h = omega arith

  pub units_above : C < (m * 2 + 3) * (m * 2 + 3) → suc m * 2 ^ k < M * 2 ^ j → C * (2 ^ k * 2 ^ k) < (suc m * 2 ^ k + M * 2 ^ j) * (suc m * 2 ^ k + M * 2 ^ j)
  units_above h l =
      let n : suc (suc m) * 2 ^ k ≤ M * 2 ^ j = next_above M j k (suc m) small big l in
      above_at C (m * 2 + 3) (2 ^ k) (suc m * 2 ^ k + M * 2 ^ j) (pow_pos k) h (omega (arith, odd_times (suc m) (2 ^ k), suc_times (suc m) (2 ^ k)))
