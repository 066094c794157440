-- `sqrt_of` of a number by its parts: the nearest whole number to a root, in units. Assumes nothing.
use mathlib.Core.Path.{◌≡◌, refl, sym, ap, ◌∙◌, subst}
use mathlib.Core.Bool.{true, false, true≢false}
use Prim.Native.Nat.{ℕ, zero, suc, ◌+◌, ◌*◌, ◌/◌, ◌%◌, ◌^◌, ◌≤◌, ◌<◌}
use native.Mathlib.Nat.{le_trans, le_of_eq, lt_of_lt_of_le, lt_of_le_of_lt, lt_irrefl, mul-pos, mul-add, mul_comm, mul_assoc, mul_left_comm, mul_right_comm, mul-le-mul_right, mul-lt-mul_of_pos_right, zero-mul, mul-div_cancel}
use native.Mathlib.Omega.{arith}
use lib.Pow.{pow_pos, pow-add}
use lib.Ieee.{Float, nan, inf, fin, binary64, up, down, to_bits, units}
use lib.Ieee.Fits.{down_pos}
use lib.Ieee.Exact.{HasValue}
use Rattle.square_root.specs.Parts.{Normal}
use Rattle.square_root.specs.Whole.{NearestWhole, Digits53}
use Rattle.square_root.specs.Root.{whole_root, cut, rounded, sqrt_of}
use Rattle.square_root.proofs.WholeRoot.{IsRoot, whole_root-is, cut_le, root_ge, root_lt, root_gt, above_low, below_high}
use Rattle.square_root.proofs.Rounding.{round_mid, bits_of_units}

-- ---- sqrt_of of a value of N smallest values
pub sqrt_units : (x : Float) (N : ℕ) → HasValue x false N (2 ^ 1074) → 0 < N → sqrt_of x ≡ rounded (N * 2 ^ 126)
unfolding sqrt_of
sqrt_units nan N h p = absurd h
sqrt_units (inf s) N h p = absurd h
sqrt_units (fin true m e) N h p = absurd (true≢false h.0)
sqrt_units (fin false zero e) N h p = absurd (lt_irrefl 0 (subst (λ (x : ℕ). 0 < x) (sym h.1 ∙ ap (λ (x : ℕ). x * 2 ^ 1074) (zero-mul (up e)) ∙ zero-mul (2 ^ 1074)) (mul-pos p (down_pos e))))
sqrt_units (fin false (suc m) e) N h p =
    ap rounded
    (ap (λ (x : ℕ). x / down e)
    (ap (λ (x : ℕ). suc m * up e * x) (pow-add 2 1074 126)
    ∙ sym (mul_assoc (suc m * up e) (2 ^ 1074) (2 ^ 126))
    ∙ ap (λ (x : ℕ). x * 2 ^ 126) h.1
    ∙ mul_right_comm N (down e) (2 ^ 126))
    ∙ mul-div_cancel (N * 2 ^ 126) (down_pos e))

-- ---- the significand, made to stand before an even power
pub doubled_ge : (c r : ℕ) → 2 ^ 52 ≤ c → 2 ^ 52 ≤ c * (1 + r)
doubled_ge c r h = omega (arith, mul-add c 1 r)

pub doubled_lt : (c r : ℕ) → c < 2 ^ 53 → r ≤ 1 → c * (1 + r) < 2 ^ 54
doubled_lt c zero h k = omega arith
doubled_lt c (suc zero) h k = omega arith
doubled_lt c (suc (suc r)) h k = absurd (no r k)
  where
    no : (b : ℕ) → suc (suc b) ≤ 1 → ⊥
    no b h = omega arith

pub last_bit : (w : ℕ) → w % 2 ≤ 1
last_bit w = omega arith

-- c, or twice c where w is odd
abbrev pub before : ℕ → ℕ → ℕ
before c w = c * (1 + w % 2)

split_pow : (w : ℕ) → 2 ^ w ≡ 2 ^ (w / 2) * 2 ^ (w / 2) * (1 + w % 2)
split_pow w =
    ap (λ (x : ℕ). 2 ^ x) (parts w)
    ∙ pow-add 2 (w / 2 + w / 2) (w % 2)
    ∙ ap (λ (x : ℕ). x * 2 ^ (w % 2)) (pow-add 2 (w / 2) (w / 2))
    ∙ ap (λ (x : ℕ). 2 ^ (w / 2) * 2 ^ (w / 2) * x) (bit (w % 2) (last_bit w))
  where
    parts : (w : ℕ) → w ≡ w / 2 + w / 2 + w % 2
    parts w = omega arith

    bit : (b : ℕ) → b ≤ 1 → 2 ^ b ≡ 1 + b
    bit zero h = refl
    bit (suc zero) h = refl
    bit (suc (suc b)) h = absurd (no b h)
      where
        no : (b : ℕ) → suc (suc b) ≤ 1 → ⊥
        no b h = omega arith

pub scaled : (N c w : ℕ) → N * 2 ^ 52 ≡ c * 2 ^ w → N * 2 ^ 126 ≡ before c w * 2 ^ 54 * (2 ^ (w / 2) * 2 ^ 10 * (2 ^ (w / 2) * 2 ^ 10))
scaled N c w h =
    ap (λ (x : ℕ). N * x) (pow-add 2 52 74)
    ∙ sym (mul_assoc N (2 ^ 52) (2 ^ 74))
    ∙ ap (λ (x : ℕ). x * 2 ^ 74) (h ∙ ap (λ (x : ℕ). c * x) (split_pow w))
    ∙ regroup c (1 + w % 2) (2 ^ (w / 2))
  where
    regroup : (c b H : ℕ) → c * (H * H * b) * 2 ^ 74 ≡ c * b * 2 ^ 54 * (H * 2 ^ 10 * (H * 2 ^ 10))
    regroup c b H = simp (mul_assoc, mul_comm, mul_left_comm) refl

-- ---- the unit of the result, in units of 2 ^ -601
unit_is : (q h : ℕ) → q * (2 ^ 601 * 2 ^ (h + 485)) ≡ q * (2 ^ h * 2 ^ 10) * 2 * 2 ^ 1075
unit_is q h = ap (λ (x : ℕ). q * (2 ^ 601 * x)) (pow-add 2 h 485) ∙ regroup q (2 ^ h)
  where
    regroup : (q H : ℕ) → q * (2 ^ 601 * (H * 2 ^ 485)) ≡ q * (H * 2 ^ 10) * 2 ^ 1 * 2 ^ 1075
    regroup q H = simp (mul_assoc, mul_comm, mul_left_comm) refl

twice : (A : ℕ) → A * 2 ^ 1074 * 2 ≡ A * 2 ^ 1075
twice A = mul_assoc A (2 ^ 1074) 2

unit_le : (q h A : ℕ) → q * (2 ^ h * 2 ^ 10) * 2 ≤ A → q * (2 ^ 601 * 2 ^ (h + 485)) ≤ A * 2 ^ 1074 * 2
unit_le q h A k = le_trans (le_of_eq (unit_is q h)) (le_trans (mul-le-mul_right (2 ^ 1075) k) (le_of_eq (sym (twice A))))

unit_lt : (q h A : ℕ) → q * (2 ^ h * 2 ^ 10) * 2 < A → q * (2 ^ 601 * 2 ^ (h + 485)) < A * 2 ^ 1074 * 2
unit_lt q h A k = lt_of_le_of_lt (le_of_eq (unit_is q h)) (lt_of_lt_of_le (mul-lt-mul_of_pos_right k (pow_pos 1075)) (le_of_eq (sym (twice A))))

unit_gt : (q h A : ℕ) → A < q * (2 ^ h * 2 ^ 10) * 2 → A * 2 ^ 1074 * 2 < q * (2 ^ 601 * 2 ^ (h + 485))
unit_gt q h A k = lt_of_le_of_lt (le_of_eq (twice A)) (lt_of_lt_of_le (mul-lt-mul_of_pos_right k (pow_pos 1075)) (le_of_eq (sym (unit_is q h))))

half_lo : (P n : ℕ) → 2 ^ 53 * P ≤ n * 2 → 2 ^ 52 * P ≤ n
half_lo P n h = omega arith

half_hi : (P n : ℕ) → n * 2 < 2 ^ 54 * P → n < 2 ^ 53 * P
half_hi P n h = omega arith

rounded_at : (N c w m : ℕ) → Normal N c w → NearestWhole (suc m) (before c w * 2 ^ 52) → rounded (N * 2 ^ 126) ≡ units binary64 false (suc m) (w / 2 + 485)
unfolding rounded
rounded_at N c w m p near =
    let X : ℕ = before c w in
    let h : ℕ = w / 2 in
    let g : ℕ = 2 ^ h * 2 ^ 10 in
    let G : 0 < g = mul-pos (pow_pos h) (pow_pos 10) in
    let n : ℕ = N * 2 ^ 126 in
    let s : n ≡ X * 2 ^ 54 * (g * g) = scaled N c w p.same in
    let r : ℕ = whole_root n in
    let R : IsRoot r n = whole_root-is n in
    let A : ℕ = r * 2 + cut r n in
    let a : 2 ^ 53 * g * 2 ≤ A = plus (r * 2) (cut r n) (root_ge (X * 2 ^ 54) g (2 ^ 53) n r s G R (lower X (doubled_ge c (w % 2) p.from))) in
    let b : A < 2 ^ 54 * g * 2 = less (r * 2) (cut r n) (cut_le r n) (root_lt (X * 2 ^ 54) g (2 ^ 54) n r s G R (upper X (doubled_lt c (w % 2) p.below (last_bit w)))) in
    let lo : (m * 2 + 1) * g * 2 < A = root_gt (X * 2 ^ 54) g (m * 2 + 1) n r s G R (lt_of_lt_of_le (above_low m (X * 2 ^ 52) near) (le_of_eq (four X))) in
    let hi : A < (m * 2 + 3) * g * 2 = less (r * 2) (cut r n) (cut_le r n) (root_lt (X * 2 ^ 54) g (m * 2 + 3) n r s G R (lt_of_le_of_lt (le_of_eq (sym (four X))) (below_high m (X * 2 ^ 52) near))) in
    round_mid A (2 ^ 601) m (h + 485) (pow_pos 601)
    (half_lo (2 ^ 601 * 2 ^ (h + 485)) (A * 2 ^ 1074) (unit_le (2 ^ 53) h A a))
    (half_hi (2 ^ 601 * 2 ^ (h + 485)) (A * 2 ^ 1074) (unit_gt (2 ^ 54) h A b))
    (unit_lt (m * 2 + 1) h A lo)
    (unit_gt (m * 2 + 3) h A hi)
  where
    plus : (a b : ℕ) {z : ℕ} → z ≤ a → z ≤ a + b
    plus a b h = omega arith

    less : (a b : ℕ) {z : ℕ} → b ≤ 1 → a + 1 < z → a + b < z
    less a b h k = omega arith

    lower : (X : ℕ) → 2 ^ 52 ≤ X → 2 ^ 53 * 2 ^ 53 ≤ X * 2 ^ 54
    lower X h = omega arith

    upper : (X : ℕ) → X < 2 ^ 54 → X * 2 ^ 54 < 2 ^ 54 * 2 ^ 54
    upper X h = omega arith

    four : (X : ℕ) → 4 * (X * 2 ^ 52) ≡ X * 2 ^ 54
    four X = omega arith

-- the root of x, whose parts are c and w, is n units of 2 ^ (w / 2 + 485) smallest values
pub root_is : (x : Float) (N c w n : ℕ) → HasValue x false N (2 ^ 1074) → 0 < N → Normal N c w → NearestWhole n (before c w * 2 ^ 52) → Digits53 n → sqrt_of x ≡ units binary64 false n (w / 2 + 485)
root_is x N c w zero v p nw near d = absurd (none d.0)
  where
    none : 2 ^ 52 ≤ 0 → ⊥
    none h = omega arith
root_is x N c w (suc m) v p nw near d = sqrt_units x N v p ∙ rounded_at N c w m nw near

pub root_bits : (x : Float) (N c w n : ℕ) → HasValue x false N (2 ^ 1074) → 0 < N → Normal N c w → NearestWhole n (before c w * 2 ^ 52) → Digits53 n → to_bits binary64 (sqrt_of x) ≡ (w / 2 + 485) * 2 ^ 52 + n
root_bits x N c w n v p nw near d = ap (to_bits binary64) (root_is x N c w n v p nw near d) ∙ bits_of_units n (w / 2 + 485) d.0 d.1 (small w nw.top)
  where
    small : (w : ℕ) → w ≤ 2097 → w / 2 + 485 ≤ 2044
    small w h = omega arith
