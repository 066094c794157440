-- `ln_of` of a number by the parts that the program takes it apart into. Assumes nothing.
use mathlib.Core.Path.{◌≡◌, refl, sym, ap, ◌∙◌, subst}
use mathlib.Core.Bool.{Bool, true, false, true≢false}
use Prim.Native.Nat.{ℕ, zero, suc, ◌+◌, ◌-◌, ◌*◌, ◌/◌, ◌%◌, ◌^◌, ◌≤◌, ◌<◌}
use native.Mathlib.Nat.{le_trans, le_of_eq, lt_of_lt_of_le, lt_of_not-le, lt_irrefl, le_antisymm, le_of_suc-le-suc, mul-le-mul, mul-pos, mul_assoc, mul-one, mul_right_comm, mul-le-mul_right, mul-lt-mul_of_pos_right, mul-div_cancel, eq_of_mul-eq-mul_right, zero-mul, zero-lt-suc}
use native.Mathlib.Omega.{arith}
use lib.IntN.{ℤ, pos, negsuc}
use lib.Bits.{shifted_half, shifted_even}
use lib.Count.{count_trailing_zeros, under}
use lib.Dec.{T}
use lib.Pow.{pow_pos, pow-add, pow_mono}
use lib.Ieee.{Float, nan, inf, fin, binary64, up, size, odd, minus, fits, of_fields, of_bits}
use lib.Ieee.Digits.{size-lt, size-le}
use lib.Ieee.Exact.{HasValue}
use lib.Ieee.Fits.{down_pos}
use Rattle.square_root.specs.Parts.{Normal}
use Rattle.square_root.specs.Standard.{below_zero}
use Rattle.square_root.proofs.Patterns.{low_bits}
use Rattle.elementary.specs.Ln.{mant, ln_split, ln_of}
use Rattle.min_max.proofs.Format.{representable, size_pos, lead_le, minus_up}
use Rattle.elementary.proofs.LnLaws.{minus_same}

-- ---- an odd number with i zeros after it is written as itself (private in the logic's `Lib/Ieee/Bits.antt`)
tz_shift : (d m i : ℕ) → m % 2 ≡ 1 → i < d → count_trailing_zeros d (m * 2 ^ i) ≡ i
unfolding count_trailing_zeros
tz_shift zero m i o h = absurd (none i h)
  where
    none : (i : ℕ) → i < 0 → ⊥
    none i h = omega arith
tz_shift (suc d) m zero o h = ap (λ (x : ℕ). under (x % 2) (count_trailing_zeros d (x / 2))) (mul-one m) ∙ ap (λ (r : ℕ). under r (count_trailing_zeros d (m / 2))) o
tz_shift (suc d) m (suc i) o h =
    ap (λ (r : ℕ). under r (count_trailing_zeros d (m * 2 ^ suc i / 2))) (shifted_even m i) ∙ ap (λ (x : ℕ). suc (count_trailing_zeros d x)) (shifted_half m i) ∙ ap suc (tz_shift d m i o (le_of_suc-le-suc h))

odd_pos : (d : ℕ) (s : Bool) (q k l : ℕ) → 0 < q → odd d s q k l ≡ fin s (q / 2 ^ count_trailing_zeros d q) (minus (k + count_trailing_zeros d q) l)
unfolding odd
odd_pos d s zero k l h = absurd (lt_irrefl 0 h)
odd_pos d s (suc q) k l h = refl

odd_shift : (d : ℕ) (s : Bool) (m i k l : ℕ) → m % 2 ≡ 1 → i < d → odd d s (m * 2 ^ i) k l ≡ fin s m (minus (k + i) l)
odd_shift d s m i k l o h =
    odd_pos d s (m * 2 ^ i) k l (mul-pos (odd_is_pos m o) (pow_pos i))
    ∙ ap (λ (t : ℕ). fin s (m * 2 ^ i / 2 ^ t) (minus (k + t) l)) (tz_shift d m i o h)
    ∙ ap (λ (x : ℕ). fin s x (minus (k + i) l)) (mul-div_cancel m (pow_pos i))
  where
    odd_is_pos : (m : ℕ) → m % 2 ≡ 1 → 0 < m
    odd_is_pos m o = omega arith

-- ---- a number of 53 digits before a power of two is determined
differ : (p q u v : ℕ) → p < 2 ^ 53 → 2 ^ 52 ≤ q → p * 2 ^ u ≡ q * 2 ^ v → u < v → ⊥
differ p q u v hp hq e l =
    let d : ℕ = v - u in
    let s : v ≡ d + u = split u v l in
    let f : p ≡ q * 2 ^ d = eq_of_mul-eq-mul_right (2 ^ u) (pow_pos u) p (q * 2 ^ d) (e ∙ ap (λ (x : ℕ). q * 2 ^ x) s ∙ ap (λ (x : ℕ). q * x) (pow-add 2 d u) ∙ sym (mul_assoc q (2 ^ d) (2 ^ u))) in
    let g : 2 ^ 52 * 2 ^ 1 ≤ q * 2 ^ d = mul-le-mul hq (pow_mono (least u v l)) in
    omega arith
  where
    split : (u v : ℕ) → u < v → v ≡ v - u + u
    split u v h = omega arith

    least : (u v : ℕ) → u < v → 1 ≤ v - u
    least u v h = omega arith

unique : (p q u v : ℕ) → 2 ^ 52 ≤ p → p < 2 ^ 53 → 2 ^ 52 ≤ q → q < 2 ^ 53 → p * 2 ^ u ≡ q * 2 ^ v → (p ≡ q) × (u ≡ v)
unique p q u v pa pb qa qb e =
    let f : u ≡ v = le_antisymm (le_of_suc-le-suc (lt_of_not-le (λ (g : suc v ≤ u). differ q p v u qb pa (sym e) g))) (le_of_suc-le-suc (lt_of_not-le (λ (g : suc u ≤ v). differ p q u v pb qa e g))) in
    (eq_of_mul-eq-mul_right (2 ^ u) (pow_pos u) p q (e ∙ ap (λ (x : ℕ). q * 2 ^ x) (sym f)), f)

-- ---- n brought to 53 digits
module _ (n : ℕ) (np : 0 < n) (nb : n < 2 ^ 53) where
  j_le : size n - 1 ≤ 52
  j_le = low_one (size n) (size-le n 53 nb)
    where
      low_one : (z : ℕ) → z ≤ 53 → z - 1 ≤ 52
      low_one z h = omega arith

  full_ge : 2 ^ 52 ≤ n * 2 ^ (52 - (size n - 1))
  full_ge =
      le_trans (le_of_eq (ap (λ (x : ℕ). 2 ^ x) (whole (size n - 1) j_le) ∙ pow-add 2 (size n - 1) (52 - (size n - 1))))
      (mul-le-mul_right (2 ^ (52 - (size n - 1))) (lead_le n np))
    where
      whole : (j : ℕ) → j ≤ 52 → 52 ≡ j + (52 - j)
      whole j h = omega arith

  full_lt : n * 2 ^ (52 - (size n - 1)) < 2 ^ 53
  full_lt =
      lt_of_lt_of_le (mul-lt-mul_of_pos_right (size-lt n) (pow_pos (52 - (size n - 1))))
      (le_of_eq (sym (pow-add 2 (size n) (52 - (size n - 1))) ∙ ap (λ (x : ℕ). 2 ^ x) (whole (size n) (size_pos n np) j_le)))
    where
      whole : (z : ℕ) → 0 < z → z - 1 ≤ 52 → z + (52 - (z - 1)) ≡ 53
      whole z p h = omega arith

-- ---- the two parts, from an equation of numbers
both : (n c u v : ℕ) → 0 < n → n < 2 ^ 53 → 2 ^ 52 ≤ c → c < 2 ^ 53 → n * 2 ^ u ≡ c * 2 ^ v → (n * 2 ^ (52 - (size n - 1)) ≡ c) × (u ≡ v + (52 - (size n - 1)))
both n c u v np nb ca cb e =
    let i = 52 - (size n - 1) in
    unique (n * 2 ^ i) c u (v + i) (full_ge n np nb) (full_lt n np nb) ca cb
    (mul_right_comm n (2 ^ i) (2 ^ u) ∙ ap (λ (x : ℕ). x * 2 ^ i) e ∙ mul_assoc c (2 ^ v) (2 ^ i) ∙ ap (λ (x : ℕ). c * x) (sym (pow-add 2 v i)))

-- the significand, by its bits
mant_bits : (n c : ℕ) → n % 2 ≡ 1 → size n - 1 ≤ 52 → 2 ^ 52 ≤ c → c < 2 ^ 53 → n * 2 ^ (52 - (size n - 1)) ≡ c → of_bits binary64 (0x3fe0_0000_0000_0000 + c) ≡ mant n
unfolding of_fields
mant_bits n c o jl ca cb e =
    let b = 0x3fe0_0000_0000_0000 + c in
    let i = 52 - (size n - 1) in
    low_bits b (small c cb)
    ∙ ap (λ (x : ℕ). of_fields binary64 false x (b % 2 ^ 52)) (field c ca cb)
    ∙ ap (λ (x : ℕ). odd 53 false x 1022 1074) (digits c ca cb ∙ sym e)
    ∙ odd_shift 53 false n i 1022 1074 o (room (size n - 1))
    ∙ ap (λ (x : ℤ). fin false n x) (minus_same (1022 + i) 1074 0 (size n - 1) (level (size n - 1) jl))
  where
    small : (c : ℕ) → c < 2 ^ 53 → 0x3fe0_0000_0000_0000 + c < 2 ^ 63
    small c h = omega arith

    field : (c : ℕ) → 2 ^ 52 ≤ c → c < 2 ^ 53 → (0x3fe0_0000_0000_0000 + c) / 2 ^ 52 ≡ 1023
    field c h k = omega arith

    digits : (c : ℕ) → 2 ^ 52 ≤ c → c < 2 ^ 53 → 2 ^ 52 + (0x3fe0_0000_0000_0000 + c) % 2 ^ 52 ≡ c
    digits c h k = omega arith

    room : (j : ℕ) → 52 - j < 53
    room j = omega arith

    level : (j : ℕ) → j ≤ 52 → 1022 + (52 - j) + j ≡ 0 + 1074
    level j h = omega arith

-- the exponent
whole_exp : (a j w : ℕ) → j ≤ 52 → a + 1126 ≡ w + (52 - j) → pos (a + j) ≡ minus w 1074
whole_exp a j w h e = let f : a + j ≡ w - 1074 = omega arith in ap pos f ∙ sym (minus_up w 1074 (omega arith))

part_exp : (b j w : ℕ) → j ≤ 52 → 1126 ≡ w + suc b + (52 - j) → minus j (suc b) ≡ minus w 1074
part_exp b j w h e = minus_same j (suc b) w 1074 (omega arith)

-- ---- `ln_of` of a number that is finite and above zero
pub ln_split_lem : (x : Float) (N c w : ℕ) → T (fits binary64 x) → HasValue x false N (2 ^ 1074) → 0 < N → Normal N c w → ln_of x ≡ ln_split (of_bits binary64 (0x3fe0_0000_0000_0000 + c)) (minus w 1074)
unfolding ln_of
ln_split_lem nan N c w f h p r = absurd h
ln_split_lem (inf s) N c w f h p r = absurd h
ln_split_lem (fin true m e) N c w f h p r = absurd (true≢false h.0)
ln_split_lem (fin false zero e) N c w f h p r = absurd (lt_irrefl 0 (subst (λ (x : ℕ). 0 < x) (sym h.1 ∙ ap (λ (x : ℕ). x * 2 ^ 1074) (zero-mul (up e)) ∙ zero-mul (2 ^ 1074)) (mul-pos p (down_pos e))))
ln_split_lem (fin false (suc m) (pos a)) N c w f h p r =
    let n = suc m in
    let s = representable false m (pos a) f in
    let eq : n * 2 ^ (a + 1126) ≡ c * 2 ^ w =
    ap (λ (x : ℕ). n * x) (pow-add 2 a 1126) ∙ sym (mul_assoc n (2 ^ a) (2 ^ 1126)) ∙ ap (λ (x : ℕ). n * 2 ^ a * x) (pow-add 2 1074 52)
    ∙ sym (mul_assoc (n * 2 ^ a) (2 ^ 1074) (2 ^ 52)) ∙ ap (λ (x : ℕ). x * 2 ^ 52) (h.1 ∙ mul-one N) ∙ r.same in
    let b = both n c (a + 1126) w (zero-lt-suc m) s.digits r.from r.below eq in
    let jl = j_le n (zero-lt-suc m) s.digits in
    ap (λ (y : Float). ln_split y (pos (a + (size n - 1)))) (sym (mant_bits n c s.odd jl r.from r.below b.0))
    ∙ ap (ln_split (of_bits binary64 (0x3fe0_0000_0000_0000 + c))) (whole_exp a (size n - 1) w jl b.1)
ln_split_lem (fin false (suc m) (negsuc d)) N c w f h p r =
    let n = suc m in
    let s = representable false m (negsuc d) f in
    let eq : n * 2 ^ 1126 ≡ c * 2 ^ (w + suc d) =
    ap (λ (x : ℕ). n * x) (pow-add 2 1074 52) ∙ sym (mul_assoc n (2 ^ 1074) (2 ^ 52)) ∙ ap (λ (x : ℕ). x * 2 ^ 1074 * 2 ^ 52) (sym (mul-one n)) ∙ ap (λ (x : ℕ). x * 2 ^ 52) h.1
    ∙ mul_right_comm N (2 ^ suc d) (2 ^ 52) ∙ ap (λ (x : ℕ). x * 2 ^ suc d) r.same ∙ mul_assoc c (2 ^ w) (2 ^ suc d) ∙ ap (λ (x : ℕ). c * x) (sym (pow-add 2 w (suc d))) in
    let b = both n c 1126 (w + suc d) (zero-lt-suc m) s.digits r.from r.below eq in
    let jl = j_le n (zero-lt-suc m) s.digits in
    ap (λ (y : Float). ln_split y (minus (size n - 1) (suc d))) (sym (mant_bits n c s.odd jl r.from r.below b.0))
    ∙ ap (ln_split (of_bits binary64 (0x3fe0_0000_0000_0000 + c))) (part_exp d (size n - 1) w jl b.1)

-- ---- the other arguments
pub nan_ln : ln_of nan ≡ nan
unfolding ln_of
nan_ln = refl

pub infinity_ln : ln_of (inf false) ≡ inf false
unfolding ln_of
infinity_ln = refl

pub zero_ln : (s : Bool) (e : ℤ) → ln_of (fin s zero e) ≡ inf true
unfolding ln_of
zero_ln s e = refl

pub negative_ln : (x : Float) → T (below_zero x) → ln_of x ≡ nan
unfolding ln_of
negative_ln nan h = absurd h
negative_ln (inf true) h = refl
negative_ln (inf false) h = absurd h
negative_ln (fin s zero e) h = absurd h
negative_ln (fin true (suc m) e) h = refl
negative_ln (fin false (suc m) e) h = absurd h
