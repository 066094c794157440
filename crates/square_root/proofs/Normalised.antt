-- A significand brought to 53 digits, a doubling at a time. Assumes nothing.
use mathlib.Core.Path.{◌≡◌, sym, ap, ◌∙◌, subst}
use Prim.Native.Nat.{ℕ, zero, suc, ◌+◌, ◌-◌, ◌*◌, ◌%◌, ◌^◌, ◌≤◌, ◌<◌}
use native.Mathlib.Nat.{lt_irrefl, lt_of_not-le, mod-eq_of_lt, mul-le-mul_right, mul-lt-mul_of_pos_right, mul-one, mul_assoc, mul_comm, pow-succ'}
use native.Mathlib.Decide.{dec_le}
use native.Mathlib.Omega.{arith}
use lib.Pow.{pow_mono, pow_pos, pow-add}
use Rattle.square_root.specs.Parts.{units_of, Normal}

-- N smallest values, c * 2 ^ (w - 52) of them, with a c that may have fewer digits
abbrev pub Scaled : ℕ → ℕ → ℕ → Type 0
Scaled N c w = (N * 2 ^ 52 ≡ c * 2 ^ w) × (0 < c) × (c < 2 ^ 53) × (w ≤ 2097)

pub scaled_step : (N c w : ℕ) → 0 < N → Scaled N c w → c < 2 ^ 52 → (1 ≤ w) × Scaled N (c * 2) (w - 1)
scaled_step N c zero p s h = let e : c * 1 ≡ c = mul-one c in absurd (no s.0)
  where
    no : N * 2 ^ 52 ≡ c * 1 → ⊥
    no e = omega arith
scaled_step N c (suc v) p s h = (
  omega arith,
  (s.0 ∙ ap (λ (x : ℕ). c * x) (pow-succ' 2 v) ∙ sym (mul_assoc c 2 (2 ^ v)) ∙ ap (λ (x : ℕ). c * 2 * 2 ^ x) (drop1 v), omega arith, omega arith, omega arith),
)
  where
    drop1 : (v : ℕ) → v ≡ suc v - 1
    drop1 v = omega arith

-- a field above 0
pub scaled_high : (e t : ℕ) → 0 < e → e < 2047 → t < 2 ^ 52 → Scaled (units_of e t) (t + 2 ^ 52) (e + 51)
scaled_high zero t p k h = absurd (lt_irrefl 0 p)
scaled_high (suc x) t p k h = (
  mul_assoc (2 ^ 52 + t) (2 ^ x) (2 ^ 52) ∙ ap (λ (y : ℕ). (2 ^ 52 + t) * y) (sym (pow-add 2 x 52) ∙ ap (λ (y : ℕ). 2 ^ y) (shift x)) ∙ ap (λ (y : ℕ). y * 2 ^ (suc x + 51)) (swap t),
  omega arith,
  omega arith,
  omega arith,
)
  where
    shift : (x : ℕ) → x + 52 ≡ suc x + 51
    shift x = omega arith

    swap : (t : ℕ) → 2 ^ 52 + t ≡ t + 2 ^ 52
    swap t = omega arith

pub normal_of : (N c w : ℕ) → Scaled N c w → 2 ^ 52 ≤ c → Normal N c w
normal_of N c w s h = record { same = s.0; from = h; below = s.2; top = s.3 }

-- a field of 0: the leading digit of t is that of 2 ^ w
pub leading_below : (w t : ℕ) → 2 ^ w ≤ t → t < 2 ^ 52 → w ≤ 52
leading_below w t h k = elim (dec_le w 52) [
  | yes l ↦ l
  | no n ↦ let m : 2 ^ 53 ≤ 2 ^ w = pow_mono (lt_of_not-le n) in absurd (omega arith)
]

shifted : (w t s : ℕ) → s + w ≡ 52 → 2 ^ w ≤ t → t < 2 * 2 ^ w → Normal t (t * 2 ^ s) w
shifted w t s e h k =
    let p : 2 ^ 52 ≡ 2 ^ s * 2 ^ w = ap (λ (x : ℕ). 2 ^ x) (sym e) ∙ pow-add 2 s w in
    let q : 2 ^ 52 ≡ 2 ^ w * 2 ^ s = p ∙ mul_comm (2 ^ s) (2 ^ w) in
    let low : 2 ^ w * 2 ^ s ≤ t * 2 ^ s = mul-le-mul_right (2 ^ s) h in
    let high : t * 2 ^ s < 2 * 2 ^ w * 2 ^ s = mul-lt-mul_of_pos_right k (pow_pos s) in
    let r : 2 * 2 ^ w * 2 ^ s ≡ 2 * (2 ^ w * 2 ^ s) = mul_assoc 2 (2 ^ w) (2 ^ s) in
    record {
      same = ap (λ (x : ℕ). t * x) p ∙ sym (mul_assoc t (2 ^ s) (2 ^ w));
      from = omega arith;
      below = omega arith;
      top = omega arith;
    }

pub normal_low : (e w t : ℕ) → e ≡ 0 → 2 ^ w ≤ t → t < 2 * 2 ^ w → t < 2 ^ 52 → Normal (units_of e t) (t * 2 ^ (52 - w) % 2 ^ 64) w
normal_low e w t z h k l =
    let b = leading_below w t h l in
    let n = shifted w t (52 - w) (omega arith) h k in
    subst (λ (x : ℕ). Normal (units_of x t) (t * 2 ^ (52 - w) % 2 ^ 64) w) (sym z)
    (subst (λ (x : ℕ). Normal t x w) (sym (mod-eq_of_lt {m = 2 ^ 64} (wide (t * 2 ^ (52 - w)) n.below))) n)
  where
    wide : (c : ℕ) → c < 2 ^ 53 → c < 2 ^ 64
    wide c h = omega arith

-- every number has such parts
pub normal : (w N c : ℕ) → 0 < N → Scaled N c w → (c' : ℕ) × (w' : ℕ) × Normal N c' w'
normal w N c p s = go w c s
  where
    drop1 : (v : ℕ) → suc v - 1 ≡ v
    drop1 v = omega arith

    none : 1 ≤ 0 → ⊥
    none h = omega arith

    go : (w c : ℕ) → Scaled N c w → (c' : ℕ) × (w' : ℕ) × Normal N c' w'
    go zero c s = elim (dec_le (2 ^ 52) c) [
      | yes h ↦ (c, zero, normal_of N c zero s h)
      | no n ↦ absurd (none (scaled_step N c zero p s (lt_of_not-le n)).0)
    ]
    go (suc v) c s = elim (dec_le (2 ^ 52) c) [
      | yes h ↦ (c, suc v, normal_of N c (suc v) s h)
      | no n ↦ go v (c * 2) (subst (λ (x : ℕ). Scaled N (c * 2) x) (drop1 v) (scaled_step N c (suc v) p s (lt_of_not-le n)).1)
    ]
