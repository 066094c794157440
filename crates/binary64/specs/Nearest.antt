-- How near `round` comes, on naturals: with a unit of 2 ^ k of the smallest values, the result is within half a unit; and the unit is the smallest value, or 2 ^ 52 units are at most the fraction itself.
-- Assumes nothing.
use Rattle.std.specs.Prelude.{◌≡◌, ◌⊎◌, not, T, eqb}
use Rattle.std.proofs.Common.{sym, ap, subst, inl, inr, le_trans, le_of_eq, mul_comm, mul_assoc, mul_left_comm, one-mul, add-mul, suc-mul, zero-mul, mul-pos, div-add-mod', mod-lt, le-div_iff_mul-le, eq-zero-or-pos, arith, leb→le, eqb→eq, pow-add, pow_pos}
use Prim.Native.Nat.{ℕ, zero, suc, ◌+◌, ◌-◌, ◌*◌, ◌/◌, ◌%◌, ◌^◌, ◌≤◌, ◌<◌, compare, Ordering}
use Rattle.std.proofs.Math.Dec.{is_le, compare_is_eq, nleb→lt, eqb_refl}
use Rattle.std.proofs.Math.Arith.{lt_of_le-ne}
use Rattle.std.specs.Float.{binary64}
use Rattle.std.specs.Float.Ieee.{size, nearest}
use Rattle.std.specs.Float.Ieee.Digits.{size_reaches}
use Rattle.std.specs.Float.Ieee.Nearest.{closest}
use Rattle.std.specs.Float.Ieee.Order.{drop, kept}
use Rattle.std.specs.Float.Ieee.Scale.{grid}

-- what `compare` says
abbrev Cmp : Ordering → ℕ → ℕ → Type 0
Cmp Ordering.lt a b = a < b
Cmp Ordering.eq a b = a ≡ b
Cmp Ordering.gt a b = b < a

cmp : (a b : ℕ) → Cmp (compare a b) a b
cmp a b = go (compare a b) (leb→le a b) (nleb→lt a b) (eqb→eq a b) (λ (e : a ≡ b). subst (λ (x : ℕ). T (eqb a x)) e (eqb_refl a))
  where
    go : (o : Ordering) → (T (is_le o) → a ≤ b) → (T (not (is_le o)) → b < a) → (T (compare_is_eq o) → a ≡ b) → (a ≡ b → T (compare_is_eq o)) → Cmp o a b
    go Ordering.lt h k e n = lt_of_le-ne (h tt) n
    go Ordering.eq h k e n = e tt
    go Ordering.gt h k e n = k tt

-- ---- twice the distance from n to w * u is at most u
abbrev Half : ℕ → ℕ → ℕ → Type 0
Half w n u = (w * u * 2 ≤ n * 2 + u) × (n * 2 ≤ w * u * 2 + u)

tie : (q t u r n : ℕ) → t < 2 → q * u + r ≡ n → r * 2 ≡ u → Half (q + t) n u
tie q zero u r n h e x = simp add-mul (let z : 0 * u ≡ 0 = zero-mul u in omega arith)
tie q (suc zero) u r n h e x = simp add-mul (let z : 1 * u ≡ u = one-mul u in omega arith)
tie q (suc (suc t)) u r n h e x = absurd (omega arith)

half : (o : Ordering) (q r n u : ℕ) → q * u + r ≡ n → r < u → Cmp o (r * 2) u → Half (nearest q o) n u
half Ordering.lt q r n u e h x = omega arith
half Ordering.eq q r n u e h x = tie q (q % 2) u r n (omega arith) e x
half Ordering.gt q r n u e h x = simp suc-mul (omega arith)

closest_half : (n u : ℕ) → 0 < u → Half (closest n u) n u
closest_half n u U = half (compare (n % u * 2) u) (n / u) (n % u) n u (div-add-mod' n u) (mod-lt n U) (cmp (n % u * 2) u)

-- ---- a / c in units of the smallest value: n / c
all_in_use : (z : ℕ) → 0 < z - 53 → 52 + (z - 53) < z
all_in_use z h = omega arith

-- where digits are dropped, the fraction is 2 ^ 52 of its unit at least
normal : (n c : ℕ) → 0 < c → 0 < drop 53 n c → 2 ^ drop 53 n c * 2 ^ 52 * c ≤ n
normal n c C K =
    let k = drop 53 n c in
    let a : 2 ^ 52 * 2 ^ k ≤ n / c = le_trans (le_of_eq (sym (pow-add 2 52 k))) (size_reaches (n / c) (52 + k) (all_in_use (size (n / c)) K)) in
    le_trans (le_of_eq (ap (λ (z : ℕ). z * c) (mul_comm (2 ^ k) (2 ^ 52)))) ((le-div_iff_mul-le C).0 a)

-- the unit of a / c, in smallest values
abbrev pub unit : ℕ → ℕ → ℕ
unit a c = 2 ^ drop 53 (a * 2 ^ 1074) c

-- it is the smallest value, or 2 ^ 52 units are at most a / c
pub unit_cases : (a c : ℕ) → 0 < c → (unit a c ≡ 1) ⊎ (unit a c * 2 ^ 52 * c ≤ a * 2 ^ 1074)
unit_cases a c C = elim (eq-zero-or-pos (drop 53 (a * 2 ^ 1074) c)) [ inl e ↦ inl (ap (λ (k : ℕ). 2 ^ k) e) | inr k ↦ inr (normal (a * 2 ^ 1074) c C k) ]

-- the rounded fraction, `grid` smallest values, is within half a unit
pub grid_half : (a c : ℕ) → 0 < c
    → (grid binary64 a c * c * 2 ≤ a * 2 ^ 1074 * 2 + unit a c * c) × (a * 2 ^ 1074 * 2 ≤ grid binary64 a c * c * 2 + unit a c * c)
grid_half a c C =
    let k = drop 53 (a * 2 ^ 1074) c in
    sorted (kept 53 (a * 2 ^ 1074) c) (2 ^ k) (a * 2 ^ 1074) (closest_half (a * 2 ^ 1074) (c * 2 ^ k) (mul-pos C (pow_pos k)))
  where
    sorted : (w u n : ℕ) → Half w n (c * u) → (w * u * c * 2 ≤ n * 2 + u * c) × (n * 2 ≤ w * u * c * 2 + u * c)
    sorted w u n h = (simp (mul_assoc, mul_comm, mul_left_comm) (simp (mul_assoc, mul_comm, mul_left_comm) at h.0), simp (mul_assoc, mul_comm, mul_left_comm) (simp (mul_assoc, mul_comm, mul_left_comm) at h.1))
