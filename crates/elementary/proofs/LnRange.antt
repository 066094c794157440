-- L(x) of an x that is finite and above zero is finite: bounds on its size, by the exponent of x. Assumes nothing.
use mathlib.Core.Path.{◌≡◌, refl, sym, ap, ◌∙◌, subst}
use mathlib.Core.Bool.{Bool, true, false, cond, true≢false}
use Prim.Native.Nat.{ℕ, zero, suc, ◌+◌, ◌-◌, ◌*◌, ◌^◌, ◌≤◌, ◌<◌, zero-le}
use native.Mathlib.Nat.{le_trans, le_of_eq, le_of_lt, lt_of_lt_of_le, lt_of_le_of_lt, lt_of_not-le, lt_irrefl, le_of_suc-le-suc, le-suc, mul_comm, mul_right_comm, mul-one, one-mul, mul-pos, mul-le-mul_right, mul-lt-mul_of_pos_right, le_of_mul-le-mul_right, pow-succ', zero-lt-suc}
use native.Mathlib.Decide.{dec_le}
use native.Mathlib.Omega.{arith}
use lib.IntN.{ℤ, pos, negsuc, nat_abs}
use lib.Dec.{T, leb, ltb→lt, lit≤, lit<}
use lib.Pow.{pow_pos, pow-add, pow_mono}
use lib.Ieee.{Float, nan, inf, fin, binary64, up, down, unlike, minus, size, lt, le, fits, of_int, of_bits}
use lib.Ieee.Digits.{minus_val}
use lib.Ieee.Fits.{up_pos}
use lib.Ieee.Positive.{num, den, den_pos, positive}
use Rattle.binary64.specs.Operators.{◌⊕◌, ◌⊖◌, ◌⊗◌, ◌⊘◌, count, negative}
use Rattle.binary64.specs.Order.{not→lt}
use Rattle.binary64.specs.Range.{exact, Most, Least, Within, Sized, sized, most_wider, least_wider}
use Rattle.binary64.proofs.Range.{least_of_le}
use Rattle.binary64.proofs.RangeOps.{least_zero}
use Rattle.binary64.proofs.RangeOps.{mul_most, div_most, div_between, div_count, add_most, add_alike, sub_alike}
use Rattle.binary64.proofs.RangeTests.{int_between, within_positive}
use Rattle.elementary.specs.Exp.{one}
use Rattle.elementary.specs.Ln.{two, ln2, terms, ln_parts, raise, ln_split, mant, expo, ln_of, three_halves, twenty_three}
use Rattle.min_max.proofs.Format.{representable, lead_le, lead_lt, minus_up, minus_down}
use Rattle.elementary.proofs.LnLaws.{parts_is}
use Rattle.elementary.proofs.Constants.{at_1, at_2, at_23, ln2_most}

-- ---- the terms: a from 0 to 37/32, q from 0 to 1/8
terms_most : (j : ℕ) (q a : Float) → j ≤ 2 ^ 50 → Most q false 1 8 → Most a false 37 32 → Most (terms j q a) false 37 32
unfolding terms
terms_most zero q a h b w = w
terms_most (suc j) q a h b w =
    terms_most j q ((one ⊘ count (2 * j + 1)) ⊕ (q ⊗ a)) (le_trans (le-suc j) h) b
    (add_alike (div_count at_1.0 (2 * j + 1) 1 1 1 (omega arith) (omega arith) tt tt tt, least_zero) (mul_most b w 37 256 tt tt, least_zero) 37 32 0 1 tt tt tt tt).0

square_sign : (s : Bool) → unlike s s ≡ false
square_sign true = refl
square_sign false = refl

-- k at most J in size
parts_sized : (J G : ℕ) → T (exact (J * 1420) 2048) → T (leb (J * 1420 * 2048) (J * 1420 * (1 * 2048))) → T (exact G 16) → T (leb ((J * 1420 * 4 + 3 * 2048) * 16) (G * (2048 * 4))) → (m k : Float) (s : Bool) → Within m 3 2 3 4 → Most k s J 1 → Sized (ln_parts m k) G 16
parts_sized J G ex same ey bound m k sk w kb =
    let s = (m ⊖ one) ⊘ (m ⊕ one) in
    let q = s ⊗ s in
    let σ = unlike (negative (m ⊖ one)) false in
    let a = terms 11 q (one ⊘ twenty_three) in
    let sm : Most s σ 5 16 = div_most (sub_alike w at_1 1 2 tt tt tt) (add_alike w at_1 5 2 7 4 tt tt tt tt) 5 16 tt tt tt in
    let qm : Most q false 1 8 = subst (λ (z : Bool). Most q z 1 8) (square_sign σ) (mul_most sm sm 1 8 tt tt) in
    let am : Most a false 37 32 = terms_most 11 q (one ⊘ twenty_three) (lit≤ tt) qm (most_wider (div_most at_1.0 at_23 1 16 tt tt tt) 37 32 tt tt) in
    let km : Most (k ⊗ ln2) (unlike sk false) (J * 1420) 2048 = mul_most kb ln2_most (J * 1420) 2048 ex same in
    let pm : Most ((two ⊗ s) ⊗ a) (unlike (unlike false σ) false) 3 4 = mul_most (mul_most at_2.0 sm 5 8 tt tt) am 3 4 tt tt in
    subst (λ (z : Float). Sized z G 16) (parts_is m k s refl) (add_most km pm G 16 ey bound)

-- ---- the significand is from 1 to 2: as it is below 3/2, from there on halved
mant_within : (n : ℕ) → 0 < n → Within (mant n) 2 1 1 1
mant_within n np =
    let j = size n - 1 in
    let E = minus 0 j in
    let x = n * up E in
    let d = down E in
    let v : x * 2 ^ j ≡ n * d = minus_val n 0 j ∙ ap (λ (z : ℕ). z * d) (mul-one n) in
    let lo : d * 2 ^ j ≤ x * 2 ^ j = le_trans (le_of_eq (mul_comm d (2 ^ j))) (le_trans (mul-le-mul_right d (lead_le n np)) (le_of_eq (sym v))) in
    let hi : x * 2 ^ j ≤ 2 * d * 2 ^ j = le_trans (le_of_eq v) (le_trans (mul-le-mul_right d (le_of_lt (lead_lt n np))) (le_of_eq (mul_right_comm 2 (2 ^ j) d))) in
    let u : d ≤ x = le_of_mul-le-mul_right lo (pow_pos j) in
    let t : x ≤ 2 * d = le_of_mul-le-mul_right hi (pow_pos j) in
    (record { over = lit< tt; fine = tt; sign = refl; most = omega arith }, record { over = lit< tt; least = omega arith })

small_within : (m : Float) → le three_halves m ≡ false → Within m 2 1 1 1 → Within m 3 2 3 4
unfolding lt of_bits
small_within nan h w = absurd w.0.fine
small_within (inf _) h w = absurd w.0.fine
small_within (fin true n e) h w = absurd (true≢false w.0.sign)
small_within (fin false n e) h w =
    let l : n * up e * 2 ^ 1 < 3 * 1 * down e = ltb→lt (n * up e * 2 ^ 1) (3 * 1 * down e) (not→lt (fin false n e) (fin false 3 (negsuc 0)) tt tt (λ u. subst T h u)) in
    (record { over = lit< tt; fine = tt; sign = refl; most = omega arith }, least_wider w.1 3 4 tt tt)

large_within : (m : Float) → le three_halves m ≡ true → Within m 2 1 1 1 → Within (m ⊘ two) 3 2 3 4
unfolding of_bits
large_within m h w =
    let l : Least m 3 2 = least_of_le three_halves m 3 2 w.0.sign w.0.fine (lit< tt) (refl, refl) (subst T (sym h) tt) in
    div_between (w.0, l) at_2 3 2 3 4 tt tt tt tt tt

-- ---- the exponent k of x, where 2 ^ -j ≤ x < 2 ^ (i + 1)
abbrev From : ℕ → ℕ → ℤ → Type 0
From j i (pos k) = k ≤ i
From j i (negsuc k) = suc k ≤ j

pow_lt_back : (i p : ℕ) → 2 ^ i < 2 ^ p → i < p
pow_lt_back i p h = lt_of_not-le (λ (g : p ≤ i). lt_irrefl (2 ^ i) (lt_of_lt_of_le h (pow_mono g)))

minus_from : (a b i j : ℕ) → a < suc i + b → b ≤ a + j → From j i (minus a b)
minus_from a b i j h k = elim (dec_le b a) [
  | yes l ↦ subst (From j i) (sym (minus_up a b l)) (omega arith)
  | no n ↦ let l : a < b = lt_of_not-le n in subst (From j i) (sym (minus_down a b l)) (omega arith)
]

expo_from : (n : ℕ) (e : ℤ) (i j : ℕ) → 0 < n → n * up e < 2 ^ suc i * down e → down e ≤ n * up e * 2 ^ j → From j i (expo n e)
expo_from n (pos a) i j p h k =
    let l = size n - 1 in
    let g : 2 ^ (a + l) < 2 ^ suc i = lt_of_le_of_lt (le_of_eq (pow-add 2 a l ∙ mul_comm (2 ^ a) (2 ^ l))) (lt_of_le_of_lt (mul-le-mul_right (2 ^ a) (lead_le n p)) (lt_of_lt_of_le h (le_of_eq (mul-one (2 ^ suc i))))) in
    le_of_suc-le-suc (pow_lt_back (a + l) (suc i) g)
expo_from n (negsuc b) i j p h k =
    let l = size n - 1 in
    let g : 2 ^ l < 2 ^ (suc i + suc b) = lt_of_le_of_lt (le_trans (lead_le n p) (le_of_eq (sym (mul-one n)))) (lt_of_lt_of_le h (le_of_eq (sym (pow-add 2 (suc i) (suc b))))) in
    let q : 2 ^ suc b < 2 ^ (suc l + j) =
    lt_of_le_of_lt k (lt_of_le_of_lt (le_of_eq (ap (λ (z : ℕ). z * 2 ^ j) (mul-one n))) (lt_of_lt_of_le (mul-lt-mul_of_pos_right (lead_lt n p) (pow_pos j)) (le_of_eq (ap (λ (z : ℕ). z * 2 ^ j) (sym (pow-succ' 2 l)) ∙ sym (pow-add 2 (suc l) j))))) in
    let r = pow_lt_back (suc b) (suc l + j) q in
    minus_from l (suc b) i j (pow_lt_back l (suc i + suc b) g) (omega arith)

raise_from : (j i : ℕ) (k : ℤ) → From j i k → From j (suc i) (raise k)
raise_from j i (pos k) h = omega arith
raise_from j i (negsuc zero) h = omega arith
raise_from j i (negsuc (suc k)) h = omega arith

int_most : (J j i : ℕ) (k : ℤ) → J ≤ 2 ^ 53 → j ≤ J → i ≤ J → From j i k → Sized (of_int binary64 k) J 1
int_most J j i k b l m h = sized (int_between k J 0 (at_most k h) zero-le (le_trans (at_most k h) b)).0
  where
    at_most : (k : ℤ) → From j i k → nat_abs k ≤ J
    at_most (pos k) h = le_trans h m
    at_most (negsuc k) h = le_trans h l

-- ---- the whole
record Logarithm (J G j i : ℕ) : Type 0 where
  exponents : J ≤ 2 ^ 53
  products : T (exact (J * 1420) 2048)
  same : T (leb (J * 1420 * 2048) (J * 1420 * (1 * 2048)))
  results : T (exact G 16)
  bound : T (leb ((J * 1420 * 4 + 3 * 2048) * 16) (G * (2048 * 4)))
  low : j ≤ J
  high : suc i ≤ J

module _ (J G j i : ℕ) (g : Logarithm J G j i) where
  split_sized : (m : Float) (k : ℤ) → Within m 2 1 1 1 → From j i k → Sized (ln_split m k) G 16
  unfolding ln_split
  split_sized m k w h = go (le three_halves m) refl
    where
      parts : (m : Float) (k : ℤ) → Within m 3 2 3 4 → From j (suc i) k → Sized (ln_parts m (of_int binary64 k)) G 16
      parts m k w h = parts_sized J G g.products g.same g.results g.bound m (of_int binary64 k) (negative (of_int binary64 k)) w (int_most J j (suc i) k g.exponents g.low g.high h)

      wider : (k : ℤ) → From j i k → From j (suc i) k
      wider (pos k) h = omega arith
      wider (negsuc k) h = h

      go : (b : Bool) → le three_halves m ≡ b → Sized (cond b (ln_parts (m ⊘ two) (of_int binary64 (raise k))) (ln_parts m (of_int binary64 k))) G 16
      go true e = parts (m ⊘ two) (raise k) (large_within m e w) (raise_from j i k h)
      go false e = parts m k (small_within m e w) (wider k h)

  ln_sized : (x : Float) → T (positive x) → num x < 2 ^ suc i * den x → den x ≤ num x * 2 ^ j → Sized (ln_of x) G 16
  unfolding ln_of
  ln_sized nan p h k = absurd p
  ln_sized (inf _) p h k = absurd p
  ln_sized (fin true m e) p h k = absurd p
  ln_sized (fin false zero e) p h k = absurd p
  ln_sized (fin false (suc n) e) p h k = split_sized (mant (suc n)) (expo (suc n) e) (mant_within (suc n) (zero-lt-suc n)) (expo_from (suc n) e i j (zero-lt-suc n) h k)

-- ---- every x that is finite and above zero: at most 746.2
fits_range : (x : Float) → T (fits binary64 x) → T (positive x) → (num x < 2 ^ 1024 * den x) × (den x ≤ num x * 2 ^ 1074)
fits_range nan f p = absurd p
fits_range (inf _) f p = absurd p
fits_range (fin true m e) f p = absurd p
fits_range (fin false zero e) f p = absurd p
fits_range (fin false (suc m) e) f p =
    let h = representable false m e f in
    (h.most, le_trans h.least (le_trans (le_of_eq (sym (one-mul (2 ^ 1074)))) (mul-le-mul_right (2 ^ 1074) (mul-pos (zero-lt-suc m) (up_pos e)))))

pub ln_finite : (x : Float) → T (fits binary64 x) → T (positive x) → Sized (ln_of x) 11939 16
ln_finite x f p =
    let r = fits_range x f p in
    ln_sized 1075 11939 1074 1023 (record { exponents = lit≤ tt; products = tt; same = tt; results = tt; bound = tt; low = lit≤ tt; high = lit≤ tt }) x p r.0 r.1

-- ---- x from 1/128 to 1: at most 5.625
pub ln_part : {x : Float} → Within x 1 1 1 128 → Sized (ln_of x) 90 16
ln_part {x} w = ln_sized 7 90 7 0 (record { exponents = lit≤ tt; products = tt; same = tt; results = tt; bound = tt; low = lit≤ tt; high = lit≤ tt }) x (within_positive w tt) (omega (arith, w.0.most, den_pos x)) (omega (arith, w.1.least))
