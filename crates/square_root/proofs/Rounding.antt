-- `round` of a fraction that is strictly between n - 1/2 and n + 1/2 units is n units, and the bits of n units. Assumes nothing.
use mathlib.Core.Path.{◌≡◌, refl, sym, ap, ◌∙◌, subst}
use mathlib.Core.Bool.{true, false, not, true≢false}
use mathlib.Core.Logic.{◌⊎◌, inl, inr}
use Prim.Native.Nat.{ℕ, suc, ◌+◌, ◌-◌, ◌*◌, ◌/◌, ◌%◌, ◌^◌, ◌≤◌, ◌<◌, compare, Ordering}
use native.Mathlib.Nat.{le_trans, le_of_eq, le_of_lt, lt_of_lt_of_le, lt_of_le_of_lt, lt_of_not-le, lt_irrefl, le_antisymm, mul-le-mul, mul_comm, mul_assoc, mul_right_comm, mul-le-mul_right, mul-lt-mul_of_pos_right, eq-or-lt_of_le, div-lt_iff_lt-mul, le-div_iff_mul-le, mul-div_cancel, add-mul, zero-add}
use native.Mathlib.Decide.{dec_le}
use native.Mathlib.Omega.{arith}
use lib.Arith.{digits_div, digits_mod, lt_of_le-ne}
use lib.Dec.{T, is_le, compare_is_eq, eqb, leb→le, nleb→lt, eqb→eq, eqb_refl}
use lib.Pow.{pow_pos, pow-add, pow_mono, pow-lt}
use lib.Ieee.{Float, nan, inf, fin, binary64, up, down, size, nearest, units, round, to_bits}
use lib.Ieee.Digits.{size-lt, size-le}
use lib.Ieee.Fits.{round_is, down_pos}
use lib.Ieee.Exact.{HasValue, units_val}
use lib.Ieee.Nearest.{closest}

-- ---- what `compare` says
abbrev Cmp : Ordering → ℕ → ℕ → Type 0
Cmp Ordering.lt a b = a < b
Cmp Ordering.eq a b = a ≡ b
Cmp Ordering.gt a b = b < a

cmp : (a b : ℕ) → Cmp (compare a b) a b
cmp a b = go (compare a b) (leb→le a b) (nleb→lt a b) (eqb→eq a b) (λ (e : a ≡ b). subst (λ (x : ℕ). T (eqb a x)) e (eqb_refl a))
  where
    go : (o : Ordering) → (T (is_le o) → a ≤ b) → (T (not (is_le o)) → b < a) → (T (compare_is_eq o) → a ≡ b) → (a ≡ b → T (compare_is_eq o)) → Cmp o a b
    go Ordering.lt h k e n = lt_of_le-ne (h tt) n
    go Ordering.eq h k e n = e tt
    go Ordering.gt h k e n = k tt

nearest_down : (p a b : ℕ) → a < b → nearest p (compare a b) ≡ p
nearest_down p a b h = go (compare a b) (cmp a b)
  where
    go : (o : Ordering) → Cmp o a b → nearest p o ≡ p
    go Ordering.lt c = refl
    go Ordering.eq c = absurd (lt_irrefl b (subst (λ (x : ℕ). x < b) c h))
    go Ordering.gt c = absurd (lt_irrefl b (lt_of_le_of_lt (le_of_lt c) h))

nearest_up : (p a b : ℕ) → b < a → nearest p (compare a b) ≡ suc p
nearest_up p a b h = go (compare a b) (cmp a b)
  where
    go : (o : Ordering) → Cmp o a b → nearest p o ≡ suc p
    go Ordering.lt c = absurd (lt_irrefl a (lt_of_lt_of_le c (le_of_lt h)))
    go Ordering.eq c = absurd (lt_irrefl b (subst (λ (x : ℕ). b < x) c h))
    go Ordering.gt c = refl

closest_split : (p u r : ℕ) → r < u → closest (p * u + r) u ≡ nearest p (compare (r * 2) u)
closest_split p u r h = ap (λ (x : ℕ). nearest x (compare ((p * u + r) % u * 2) u)) (digits_div p h) ∙ ap (λ (x : ℕ). nearest p (compare (x * 2) u)) (digits_mod p h)

-- ---- a is strictly between m + 1/2 and m + 3/2 times u
closest_mid : (a u m : ℕ) → (m * 2 + 1) * u < a * 2 → a * 2 < (m * 2 + 3) * u → closest a u ≡ suc m
closest_mid a u m h k = elim (dec_le (suc m * u) a) [
  | yes l ↦
      let r : ℕ = a - suc m * u in
      let s : a ≡ suc m * u + r = omega arith in
      let t : r * 2 < u = omega (arith, wide) in
      ap (λ (x : ℕ). closest x u) s ∙ closest_split (suc m) u r (omega arith) ∙ nearest_down (suc m) (r * 2) u t
  | no n ↦
      let l : a < suc m * u = lt_of_not-le n in
      let r : ℕ = a - m * u in
      let s : a ≡ m * u + r = omega (arith, wide, next) in
      let t : u < r * 2 = omega (arith, wide) in
      ap (λ (x : ℕ). closest x u) s ∙ closest_split m u r (omega (arith, next)) ∙ nearest_up m (r * 2) u t
]
  where
    next : suc m * u ≡ m * u + u
    next = omega (arith, add-mul m 1 u)

    wide : ((m * 2 + 1) * u ≡ m * u * 2 + u) × ((m * 2 + 3) * u ≡ suc m * u * 2 + u)
    wide =
        let a : (m * 2 + 1) * u ≡ m * 2 * u + 1 * u = add-mul (m * 2) 1 u in
        let b : (m * 2 + 3) * u ≡ m * 2 * u + 3 * u = add-mul (m * 2) 3 u in
        let c : m * 2 * u ≡ m * u * 2 = mul_right_comm m 2 u in
        (omega arith, omega (arith, next))

-- ---- a number's digits
size_is : (n j : ℕ) → 2 ^ j ≤ n → n < 2 ^ suc j → size n ≡ suc j
size_is n j a b = le_antisymm (size-le n (suc j) b) (lt_of_not-le (λ (g : size n ≤ j). lt_irrefl n (lt_of_lt_of_le (size-lt n) (le_trans (pow_mono g) a))))

shuffle : (a k D : ℕ) → 2 ^ (a + k) * D ≡ 2 ^ a * (D * 2 ^ k)
shuffle a k D = ap (λ (x : ℕ). x * D) (pow-add 2 a k) ∙ mul_assoc (2 ^ a) (2 ^ k) D ∙ ap (λ (x : ℕ). 2 ^ a * x) (mul_comm (2 ^ k) D)

drops : (z k : ℕ) → z ≡ suc (52 + k) → z - 53 ≡ k
drops z k h = omega arith

-- A / D has 53 digits before units of 2 ^ k smallest values, and is between m + 1/2 and m + 3/2 of them
pub round_mid : (A D m k : ℕ) → 0 < D → 2 ^ 52 * (D * 2 ^ k) ≤ A * 2 ^ 1074 → A * 2 ^ 1074 < 2 ^ 53 * (D * 2 ^ k)
    → (m * 2 + 1) * (D * 2 ^ k) < A * 2 ^ 1074 * 2 → A * 2 ^ 1074 * 2 < (m * 2 + 3) * (D * 2 ^ k)
    → round binary64 false A D ≡ units binary64 false (suc m) k
round_mid A D m k dp lo hi a b =
    let n : ℕ = A * 2 ^ 1074 in
    let x : 2 ^ (52 + k) * D ≤ n = le_trans (le_of_eq (shuffle 52 k D)) lo in
    let y : n < 2 ^ (53 + k) * D = lt_of_lt_of_le hi (le_of_eq (sym (shuffle 53 k D))) in
    let z : size (n / D) ≡ suc (52 + k) = size_is (n / D) (52 + k) ((le-div_iff_mul-le dp).1 x) (subst (λ (j : ℕ). n / D < 2 ^ j) (next k) ((div-lt_iff_lt-mul dp).1 y)) in
    round_is binary64 false A D
    ∙ ap (λ (j : ℕ). units binary64 false (closest n (D * 2 ^ j)) j) (drops (size (n / D)) k z)
    ∙ ap (λ (q : ℕ). units binary64 false q k) (closest_mid n (D * 2 ^ k) m a b)
  where
    next : (k : ℕ) → 53 + k ≡ suc (52 + k)
    next k = omega arith

-- ---- the bits of q * 2 ^ k smallest values
bits_of_value : (x : Float) (a : ℕ) → HasValue x false a (2 ^ 1074) → to_bits binary64 x ≡ (size a - 53) * 2 ^ 52 + a / 2 ^ (size a - 53)
unfolding to_bits
bits_of_value nan a h = absurd h
bits_of_value (inf s) a h = absurd h
bits_of_value (fin true m e) a h = absurd (true≢false h.0)
bits_of_value (fin false m e) a h =
    let n : m * up e * 2 ^ 1074 / down e ≡ a = ap (λ (x : ℕ). x / down e) h.1 ∙ mul-div_cancel a (down_pos e) in
    ap (λ (x : ℕ). 0 + (size x - 53) * 2 ^ 52 + x / 2 ^ (size x - 53)) n ∙ ap (λ (x : ℕ). x + a / 2 ^ (size a - 53)) (zero-add ((size a - 53) * 2 ^ 52))

room : (q k : ℕ) → q ≤ 2 ^ 53 → k ≤ 2044 → q * 2 ^ k < 2 ^ 2098
room q k a b = lt_of_le_of_lt (mul-le-mul a (pow_mono b)) (lt_of_le_of_lt (le_of_eq (sym (pow-add 2 53 2044))) (pow-lt {i = 2097} {j = 2098} (omega arith)))

pub units_value : (q k : ℕ) → q ≤ 2 ^ 53 → k ≤ 2044 → HasValue (units binary64 false q k) false (q * 2 ^ k) (2 ^ 1074)
units_value q k a b = units_val binary64 false q k (room q k a b)

pub bits_of_units : (q k : ℕ) → 2 ^ 52 ≤ q → q ≤ 2 ^ 53 → k ≤ 2044 → to_bits binary64 (units binary64 false q k) ≡ k * 2 ^ 52 + q
bits_of_units q k a b c = bits_of_value (units binary64 false q k) (q * 2 ^ k) (units_value q k b c) ∙ go (eq-or-lt_of_le b)
  where
    go : (q ≡ 2 ^ 53) ⊎ (q < 2 ^ 53) → (size (q * 2 ^ k) - 53) * 2 ^ 52 + q * 2 ^ k / 2 ^ (size (q * 2 ^ k) - 53) ≡ k * 2 ^ 52 + q
    go (inl e) =
        let t : q * 2 ^ k ≡ 2 ^ 52 * 2 ^ (k + 1) = ap (λ (x : ℕ). x * 2 ^ k) e ∙ sym (pow-add 2 53 k) ∙ ap (λ (x : ℕ). 2 ^ x) (turn k) ∙ pow-add 2 52 (k + 1) in
        let z : size (q * 2 ^ k) ≡ suc (52 + (k + 1)) = ap size (t ∙ sym (pow-add 2 52 (k + 1))) ∙ size_is (2 ^ (52 + (k + 1))) (52 + (k + 1)) (le_of_eq refl) (pow-lt (omega arith)) in
        ap (λ (j : ℕ). j * 2 ^ 52 + q * 2 ^ k / 2 ^ j) (drops (size (q * 2 ^ k)) (k + 1) z)
        ∙ ap (λ (x : ℕ). (k + 1) * 2 ^ 52 + x) (ap (λ (x : ℕ). x / 2 ^ (k + 1)) t ∙ mul-div_cancel (2 ^ 52) (pow_pos (k + 1)))
        ∙ omega arith
      where
        turn : (k : ℕ) → 53 + k ≡ 52 + (k + 1)
        turn k = omega arith
    go (inr l) =
        let z : size (q * 2 ^ k) ≡ suc (52 + k) = size_is (q * 2 ^ k) (52 + k) (le_trans (le_of_eq (pow-add 2 52 k)) (mul-le-mul_right (2 ^ k) a)) (subst (λ (j : ℕ). q * 2 ^ k < 2 ^ j) (next k) (lt_of_lt_of_le (mul-lt-mul_of_pos_right l (pow_pos k)) (le_of_eq (sym (pow-add 2 53 k))))) in
        ap (λ (j : ℕ). j * 2 ^ 52 + q * 2 ^ k / 2 ^ j) (drops (size (q * 2 ^ k)) k z) ∙ ap (λ (x : ℕ). k * 2 ^ 52 + x) (mul-div_cancel q (pow_pos k))
      where
        next : (k : ℕ) → 53 + k ≡ suc (52 + k)
        next k = omega arith
