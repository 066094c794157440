-- Bounds on E(t) for an exponent t of at most N / D in size: every a of the series is between lo and hi, and lo and hi are squared and rounded as a is. Assumes nothing.
use mathlib.Core.Path.{◌≡◌, refl, sym, ◌∙◌, subst}
use mathlib.Core.Bool.{Bool, true, false, ◌&&◌, ◌||◌}
use Prim.Native.Nat.{ℕ, zero, suc, ◌+◌, ◌*◌, ◌^◌, ◌≤◌}
use native.Mathlib.Nat.{le_trans, le-suc, zero-lt-suc}
use lib.Dec.{T, ltb, leb, not_T, lit≤}
use lib.Ieee.{Float, binary64, unlike, mul, neg, lt, le, round, size, of_bits}
use lib.Ieee.Bits.{is_false}
use lib.Ieee.Fits.{and_i, and_l, and_r}
use lib.Ieee.Positive.{num, den, positive, mul_mono, between}
use Rattle.binary64.specs.Operators.{◌⊕◌, ◌⊗◌, ◌⊘◌, f64, count}
use Rattle.binary64.specs.Order.{lt→not}
use Rattle.binary64.specs.Range.{exact, Most, Within, most_wider, least_wider}
use Rattle.binary64.proofs.RangeOps.{mul_most, div_most, div_count, add_over}
use Rattle.binary64.proofs.RangeTests.{tested_within, most_le, most_ge, within_ge}
use Rattle.binary64.specs.Literals.{«708·0»}
use Rattle.elementary.specs.Exp.{one, series, squarings, exp_of, highest, lowest, scale}
use Rattle.elementary.proofs.ExpLaws.{exp_mid, powered_is}
use Rattle.elementary.proofs.Constants.{at_1, at_1024}

-- ---- squarings keep the order of floats that stay positive
unfoldable pub stays : ℕ → Float → Bool
stays zero x = positive x
stays (suc n) x = positive x && stays n (x ⊗ x)

stays_positive : (n : ℕ) (x : Float) → T (stays n x) → T (positive x)
unfolding stays
stays_positive zero x f = f
stays_positive (suc n) x f = and_l (positive x) (stays n (x ⊗ x)) f

squarings_le : (n : ℕ) (x y : Float) → T (stays n x) → T (stays n y) → T (le x y) → T (le (squarings n x) (squarings n y))
unfolding stays squarings
squarings_le zero x y f g h = h
squarings_le (suc n) x y f g h =
    let p = stays_positive (suc n) x f in
    let q = stays_positive (suc n) y g in
    squarings_le n (x ⊗ x) (y ⊗ y) (and_r (positive x) (stays n (x ⊗ x)) f) (and_r (positive y) (stays n (y ⊗ y)) g) (mul_mono binary64 x y x y p q p q h h)

stays_between : (n : ℕ) (lo x hi : Float) → T (stays n lo) → T (stays n hi) → T (le lo x) → T (le x hi) → T (stays n x)
unfolding stays
stays_between zero lo x hi f g h k = between lo x hi f g h k
stays_between (suc n) lo x hi f g h k =
    let p = stays_positive (suc n) lo f in
    let q = stays_positive (suc n) hi g in
    let r = between lo x hi p q h k in
    and_i (positive x) (stays n (x ⊗ x)) r
    (stays_between n (lo ⊗ lo) (x ⊗ x) (hi ⊗ hi) (and_r (positive lo) (stays n (lo ⊗ lo)) f) (and_r (positive hi) (stays n (hi ⊗ hi)) g) (mul_mono binary64 lo x lo x p r p r h h) (mul_mono binary64 x hi x hi r q r q k k))

-- ---- t is between the limits
not_high : {t : Float} {s : Bool} → Most t s 708 1 → lt highest t ≡ false
unfolding of_bits
not_high {t} h = is_false (lt highest t) (not_T (lt highest t) (λ u. lt→not highest t tt h.fine u (most_le h highest tt tt)))

not_low : {t : Float} {s : Bool} → Most t s 708 1 → lt t lowest ≡ false
unfolding of_bits neg
not_low {t} h = is_false (lt t lowest) (not_T (lt t lowest) (λ u. lt→not t lowest h.fine tt u (most_ge h «708·0» tt tt)))

-- ---- |t| is at most N / D, each term after the 1 at most P / Q, and R = Q - P: tests that antt computes
pub record Exponents (N D P Q R : ℕ) (lo hi : Float) : Type 0 where
  pub limit : T (leb (N * 1) (708 * D))
  pub scaled : T (exact N (D * 1024))
  pub scales : T (leb (N * 1 * (D * 1024)) (N * (D * 1024)))
  pub term : T (exact P Q)
  pub product : T (leb ((Q + P) * N * Q) (P * (Q * (D * 1024))))
  pub quotient : T (leb (P * 1 * Q) (P * (Q * 1)))
  pub top : T (exact (Q + P) Q)
  pub bottom : T (exact R Q)
  pub sum : T (leb ((1 * Q + P * 1) * Q) ((Q + P) * (1 * Q)))
  pub rest : T (leb ((R * Q + P * Q) * 1) (1 * (Q * Q)))
  pub start_top : T (leb (1 * Q) ((Q + P) * 1))
  pub start_bottom : T (leb (R * 1) (1 * Q))
  pub over : T (ltb 0 Q)
  pub some : T (ltb 0 R)
  pub lo_at : T (leb (num lo * Q) (R * den lo))
  pub hi_at : T (leb ((Q + P) * den hi) (num hi * Q))
  pub lo_stays : T (stays 10 lo)
  pub hi_stays : T (stays 10 hi)

module _ (N D P Q R : ℕ) (lo hi : Float) (g : Exponents N D P Q R lo hi) where
  series_within : (k : ℕ) (y a : Float) (s : Bool) → k ≤ 2 ^ 53 → Most y s N (D * 1024) → Within a (Q + P) Q R Q → Within (series k y a) (Q + P) Q R Q
  unfolding series
  series_within zero y a s l b w = w
  series_within (suc k) y a s l b w =
      series_within k y (one ⊕ ((a ⊗ y) ⊘ count (suc k))) s (le_trans (le-suc k) l) b
      (add_over at_1 (div_count (mul_most w.0 b P Q g.term g.product) (suc k) 1 P Q (zero-lt-suc k) l tt g.term g.quotient) (Q + P) Q R Q (plus (ltb 0 R)) g.top g.bottom g.sum g.rest)
    where
      plus : (b : Bool) → T (b || true)
      plus true = tt
      plus false = tt

  exp_between : (t : Float) (s : Bool) → Most t s N D → T (le (squarings 10 lo) (exp_of t)) × T (le (exp_of t) (squarings 10 hi))
  exp_between t s h =
      let m : Most t s 708 1 = most_wider h 708 1 tt g.limit in
      let a = series 18 (t ⊘ scale) one in
      let w : Within a (Q + P) Q R Q =
      series_within 18 (t ⊘ scale) one (unlike s false) (lit≤ tt) (div_most h at_1024 N (D * 1024) tt g.scaled g.scales)
      (most_wider at_1.0 (Q + P) Q g.over g.start_top, least_wider at_1.1 R Q g.over g.start_bottom) in
      let b : T (le lo a) = within_ge w lo (stays_positive 10 lo g.lo_stays) g.some g.lo_at in
      let c : T (le a hi) = most_le w.0 hi (stays_positive 10 hi g.hi_stays) g.hi_at in
      let f = stays_between 10 lo a hi g.lo_stays g.hi_stays b c in
      subst (λ (x : Float). T (le (squarings 10 lo) x) × T (le x (squarings 10 hi))) (powered_is t ∙ sym (exp_mid t (not_high m) (not_low m)))
      (squarings_le 10 lo a g.lo_stays f b, squarings_le 10 a hi f g.hi_stays c)

  -- bottom is the power of lo, and top that of hi
  pub exp_within : (bottom top : Float) → squarings 10 lo ≡ bottom → squarings 10 hi ≡ top → T (positive bottom) → T (positive top) → (t : Float) (s : Bool) → Most t s N D → Within (exp_of t) (num top) (den top) (num bottom) (den bottom)
  exp_within bottom top e f p q t s h =
      let b = exp_between t s h in
      tested_within bottom (exp_of t) top p q (subst (λ (x : Float). T (le x (exp_of t))) e b.0) (subst (λ (x : Float). T (le (exp_of t) x)) f b.1)

-- ---- |t| ≤ 20.125: from 2 ^ -30 to 2 ^ 30
exp_20_ends : Exponents 161 8 1314 65536 64222 (f64 0x3fef_5bc0_0000_0000) (f64 0x3ff0_5220_0000_0000)
unfolding stays mul round size of_bits
exp_20_ends = record { limit = tt; scaled = tt; scales = tt; term = tt; product = tt; quotient = tt; top = tt; bottom = tt; sum = tt; rest = tt; start_top = tt; start_bottom = tt; over = tt; some = tt; lo_at = tt; hi_at = tt; lo_stays = tt; hi_stays = tt }

exp_20_powers : (squarings 10 (f64 0x3fef_5bc0_0000_0000) ≡ f64 0x3e10_e5a0_21bb_14eb) × (squarings 10 (f64 0x3ff0_5220_0000_0000) ≡ f64 0x41c4_1318_2790_8be6)
unfolding squarings mul round size of_bits
exp_20_powers = (refl, refl)

pub exp_20 : {t : Float} {s : Bool} → Most t s 161 8 → Within (exp_of t) (2 ^ 30) 1 1 (2 ^ 30)
unfolding of_bits
exp_20 {t} {s} h =
    let w = exp_within 161 8 1314 65536 64222 (f64 0x3fef_5bc0_0000_0000) (f64 0x3ff0_5220_0000_0000) exp_20_ends (f64 0x3e10_e5a0_21bb_14eb) (f64 0x41c4_1318_2790_8be6) exp_20_powers.0 exp_20_powers.1 tt tt t s h in
    (most_wider w.0 (2 ^ 30) 1 tt tt, least_wider w.1 1 (2 ^ 30) tt tt)

-- ---- |t| ≤ 22.5: from 2 ^ -34 to 2 ^ 33
exp_22_ends : Exponents 45 2 1473 65536 64063 (f64 0x3fef_47e0_0000_0000) (f64 0x3ff0_5c10_0000_0000)
unfolding stays mul round size of_bits
exp_22_ends = record { limit = tt; scaled = tt; scales = tt; term = tt; product = tt; quotient = tt; top = tt; bottom = tt; sum = tt; rest = tt; start_top = tt; start_bottom = tt; over = tt; some = tt; lo_at = tt; hi_at = tt; lo_stays = tt; hi_stays = tt }

exp_22_powers : (squarings 10 (f64 0x3fef_47e0_0000_0000) ≡ f64 0x3dd5_5b5c_4e14_725d) × (squarings 10 (f64 0x3ff0_5c10_0000_0000) ≡ f64 0x41fc_9429_3dfa_3e20)
unfolding squarings mul round size of_bits
exp_22_powers = (refl, refl)

pub exp_22 : {t : Float} {s : Bool} → Most t s 45 2 → Within (exp_of t) (2 ^ 33) 1 1 (2 ^ 34)
unfolding of_bits
exp_22 {t} {s} h =
    let w = exp_within 45 2 1473 65536 64063 (f64 0x3fef_47e0_0000_0000) (f64 0x3ff0_5c10_0000_0000) exp_22_ends (f64 0x3dd5_5b5c_4e14_725d) (f64 0x41fc_9429_3dfa_3e20) exp_22_powers.0 exp_22_powers.1 tt tt t s h in
    (most_wider w.0 (2 ^ 33) 1 tt tt, least_wider w.1 1 (2 ^ 34) tt tt)

-- ---- |t| ≤ 30.125: from 2 ^ -46 to 2 ^ 45
exp_30_ends : Exponents 241 8 1987 65536 63549 (f64 0x3fef_07a0_0000_0000) (f64 0x3ff0_7c30_0000_0000)
unfolding stays mul round size of_bits
exp_30_ends = record { limit = tt; scaled = tt; scales = tt; term = tt; product = tt; quotient = tt; top = tt; bottom = tt; sum = tt; rest = tt; start_top = tt; start_bottom = tt; over = tt; some = tt; lo_at = tt; hi_at = tt; lo_stays = tt; hi_stays = tt }

exp_30_powers : (squarings 10 (f64 0x3fef_07a0_0000_0000) ≡ f64 0x3d16_e044_e53c_a5c1) × (squarings 10 (f64 0x3ff0_7c30_0000_0000) ≡ f64 0x42b1_7480_fb90_ee9a)
unfolding squarings mul round size of_bits
exp_30_powers = (refl, refl)

pub exp_30 : {t : Float} {s : Bool} → Most t s 241 8 → Within (exp_of t) (2 ^ 45) 1 1 (2 ^ 46)
unfolding of_bits
exp_30 {t} {s} h =
    let w = exp_within 241 8 1987 65536 63549 (f64 0x3fef_07a0_0000_0000) (f64 0x3ff0_7c30_0000_0000) exp_30_ends (f64 0x3d16_e044_e53c_a5c1) (f64 0x42b1_7480_fb90_ee9a) exp_30_powers.0 exp_30_powers.1 tt tt t s h in
    (most_wider w.0 (2 ^ 45) 1 tt tt, least_wider w.1 1 (2 ^ 46) tt tt)

-- ---- |t| ≤ 96: from 2 ^ -162 to 2 ^ 146
exp_96_ends : Exponents 96 1 424 4096 3672 (f64 0x3fec_b000_0000_0000) (f64 0x3ff1_a800_0000_0000)
unfolding stays mul round size of_bits
exp_96_ends = record { limit = tt; scaled = tt; scales = tt; term = tt; product = tt; quotient = tt; top = tt; bottom = tt; sum = tt; rest = tt; start_top = tt; start_bottom = tt; over = tt; some = tt; lo_at = tt; hi_at = tt; lo_stays = tt; hi_stays = tt }

exp_96_powers : (squarings 10 (f64 0x3fec_b000_0000_0000) ≡ f64 0x35d7_b2ee_d6e0_aaf9) × (squarings 10 (f64 0x3ff1_a800_0000_0000) ≡ f64 0x4906_e7d3_8f0d_4a85)
unfolding squarings mul round size of_bits
exp_96_powers = (refl, refl)

pub exp_96 : {t : Float} {s : Bool} → Most t s 96 1 → Within (exp_of t) (2 ^ 146) 1 1 (2 ^ 162)
unfolding of_bits
exp_96 {t} {s} h =
    let w = exp_within 96 1 424 4096 3672 (f64 0x3fec_b000_0000_0000) (f64 0x3ff1_a800_0000_0000) exp_96_ends (f64 0x35d7_b2ee_d6e0_aaf9) (f64 0x4906_e7d3_8f0d_4a85) exp_96_powers.0 exp_96_powers.1 tt tt t s h in
    (most_wider w.0 (2 ^ 146) 1 tt tt, least_wider w.1 1 (2 ^ 162) tt tt)
