-- `sqrt_of` of every value of the format is what IEEE 754 asks (`specs/Standard.antt`). Assumes nothing.
use mathlib.Core.Path.{◌≡◌, refl, sym, ap, ◌∙◌, subst}
use mathlib.Core.Bool.{Bool, true, false, cond}
use mathlib.Core.Logic.{◌⊎◌, inl, inr}
use Prim.Native.Nat.{ℕ, zero, suc, ◌+◌, ◌-◌, ◌*◌, ◌/◌, ◌%◌, ◌^◌, ◌≤◌, ◌<◌}
use native.Mathlib.Nat.{le_trans, le_of_eq, lt_of_lt_of_le, lt_of_le_of_lt, lt_of_mul-lt-mul_right, mul-pos, mul_comm, mul_assoc, mul_left_comm, mul_right_comm, mul-mul-mul_comm, mul-lt-mul_of_pos_right, mul-one, add-mul, eq-or-lt_of_le, mod-lt}
use native.Mathlib.Omega.{arith}
use lib.IntN.{ℤ}
use lib.Dec.{T, leb, eqb}
use lib.Pow.{pow_pos, pow-add}
use lib.Ieee.{Float, nan, inf, fin, binary64, up, down, of_fields, to_bits, fits, units}
use lib.Ieee.Bits.{of_bits-to_bits}
use lib.Ieee.Exact.{HasValue}
use lib.Ieee.Fits.{round-fits, nan-fits, inf-fits, cond-fits}
use lib.Ieee.Positive.{num, den, den_pos, positive, value→cross, first_pos, value_pos}
use Rattle.square_root.specs.Parts.{units_of, Normal}
use Rattle.square_root.specs.Whole.{NearestWhole, Digits53}
use Rattle.square_root.specs.Root.{whole_root, cut, rounded, sqrt_of}
use Rattle.square_root.specs.Standard.{natural, below_zero, Nearest, SquareRoot}
use Rattle.square_root.proofs.Fractions.{positive_natural, value_natural, less, middle_below, middle_above}
use Rattle.square_root.proofs.Squares.{square_lt}
use Rattle.square_root.proofs.WholeRoot.{IsRoot, whole_root-is, half_up, above_low, below_high}
use Rattle.square_root.proofs.Patterns.{of_bits_is, fields_value, ones_fields}
use Rattle.square_root.proofs.Normalised.{normal}
use Rattle.square_root.proofs.Rounding.{units_value}
use Rattle.square_root.proofs.Units.{before, doubled_ge, doubled_lt, last_bit, scaled, root_is}
use Rattle.square_root.proofs.Spacing.{units_below, units_above}

-- ---- a value of the format that is finite and not negative is M * 2 ^ j smallest values
abbrev Units : Float → Type 0
Units y = (M : ℕ) × (j : ℕ) × (M < 2 ^ 53) × (j ≤ 2045) × HasValue y false (M * 2 ^ j) (2 ^ 1074)

fields_units : (y : Float) (x t : ℕ) → x < 2047 → t < 2 ^ 52 → HasValue y false (units_of x t) (2 ^ 1074) → Units y
fields_units y zero t h k v = (t, 0, omega arith, omega arith, subst (λ (n : ℕ). HasValue y false n (2 ^ 1074)) (sym (mul-one t)) v)
fields_units y (suc x) t h k v = (2 ^ 52 + t, x, omega arith, omega arith, v)

natural_fields : (s : Bool) (x t : ℕ) → x ≤ 2047 → t < 2 ^ 52 → T (natural (of_fields binary64 s x t)) → Units (of_fields binary64 s x t)
natural_fields s x t h k n = go (eq-or-lt_of_le h)
  where
    never : (b : Bool) → T (natural (cond b (inf s) nan)) → ⊥
    never true u = u
    never false u = u

    plus : (s : Bool) (v : Float) (a c : ℕ) → HasValue v s a c → T (natural v) → HasValue v false a c
    plus s nan a c h n = absurd n
    plus s (inf t) a c h n = absurd n
    plus s (fin true m e) a c h n = absurd n
    plus s (fin false m e) a c h n = (refl, h.1)

    go : (x ≡ 2047) ⊎ (x < 2047) → Units (of_fields binary64 s x t)
    go (inl e) = absurd (never (eqb t 0) (subst (λ (v : Float). T (natural v)) (ap (λ (y : ℕ). of_fields binary64 s y t) e ∙ ones_fields s t) n))
    go (inr l) = fields_units (of_fields binary64 s x t) x t l k (plus s (of_fields binary64 s x t) (units_of x t) (2 ^ 1074) (fields_value s x t l) n)

natural_units : (y : Float) → T (fits binary64 y) → T (natural y) → Units y
natural_units y h n =
    let b = to_bits binary64 y in
    let e : of_fields binary64 (leb (2 ^ 63) b) (b % 2 ^ 63 / 2 ^ 52) (b % 2 ^ 52) ≡ y = sym (of_bits_is b) ∙ of_bits-to_bits binary64 y h in
    subst Units e (natural_fields (leb (2 ^ 63) b) (b % 2 ^ 63 / 2 ^ 52) (b % 2 ^ 52) (field b) (mod-lt b (pow_pos 52)) (subst (λ (v : Float). T (natural v)) (sym e) n))
  where
    field : (b : ℕ) → b % 2 ^ 63 / 2 ^ 52 ≤ 2047
    field b = omega arith

-- ---- four times the number, in units of the root's
four_times : (N c w : ℕ) → N * 2 ^ 52 ≡ c * 2 ^ w → 4 * (before c w * 2 ^ 52) * (2 ^ (w / 2 + 485) * 2 ^ (w / 2 + 485)) ≡ 4 * N * 2 ^ 1074
four_times N c w e =
    ap (λ (x : ℕ). 4 * (before c w * 2 ^ 52) * (x * x)) (pow-add 2 (w / 2) 485)
    ∙ ap (λ (x : ℕ). x * (2 ^ (w / 2) * 2 ^ 485 * (2 ^ (w / 2) * 2 ^ 485))) (four (before c w))
    ∙ widen (before c w * 2 ^ 54) (2 ^ (w / 2))
    ∙ ap (λ (x : ℕ). x * 2 ^ 950) (sym (scaled N c w e))
    ∙ same N
  where
    four : (X : ℕ) → 4 * (X * 2 ^ 52) ≡ X * 2 ^ 54
    four X = omega arith

    widen : (C H : ℕ) → C * (H * 2 ^ 485 * (H * 2 ^ 485)) ≡ C * (H * 2 ^ 10 * (H * 2 ^ 10)) * 2 ^ 950
    widen C H = simp (mul_assoc, mul_left_comm) refl

    same : (N : ℕ) → N * 2 ^ 126 * 2 ^ 950 ≡ 4 * N * 2 ^ 1074
    same N = mul_assoc N (2 ^ 126) (2 ^ 950) ∙ sym (mul_assoc N 4 (2 ^ 1074)) ∙ ap (λ (x : ℕ). x * 2 ^ 1074) (mul_comm N 4)

-- ---- from units to fractions
abbrev sq : ℕ → ℕ
sq n = n * n

module _ (nr dr ny dy nx dx Q Y N L : ℕ) (er : nr * L ≡ Q * dr) (ey : ny * L ≡ Y * dy) (ex : nx * L ≡ N * dx) where
  sum_is : (nr * dy + ny * dr) * L ≡ (Q + Y) * (dr * dy)
  sum_is =
      add-mul (nr * dy) (ny * dr) L
      ∙ ap (λ (x : ℕ). x + ny * dr * L) (mul_right_comm nr dy L ∙ ap (λ (x : ℕ). x * dy) er ∙ mul_assoc Q dr dy)
      ∙ ap (λ (x : ℕ). Q * (dr * dy) + x) (mul_right_comm ny dr L ∙ ap (λ (x : ℕ). x * dr) ey ∙ mul_assoc Y dy dr ∙ ap (λ (x : ℕ). Y * x) (mul_comm dy dr))
      ∙ sym (add-mul Q Y (dr * dy))

  left_is : sq (nr * dy + ny * dr) * dx * (L * L) ≡ (Q + Y) * (Q + Y) * (sq (dr * dy) * dx)
  left_is =
      mul_right_comm (sq (nr * dy + ny * dr)) dx (L * L)
      ∙ ap (λ (x : ℕ). x * dx) (mul-mul-mul_comm (nr * dy + ny * dr) (nr * dy + ny * dr) L L ∙ ap sq sum_is ∙ mul-mul-mul_comm (Q + Y) (dr * dy) (Q + Y) (dr * dy))
      ∙ mul_assoc ((Q + Y) * (Q + Y)) (sq (dr * dy)) dx

  right_is : 4 * nx * sq (dr * dy) * (L * L) ≡ 4 * N * L * (sq (dr * dy) * dx)
  right_is =
      spread 4 nx (sq (dr * dy)) L
      ∙ ap (λ (x : ℕ). 4 * x * L * sq (dr * dy)) ex
      ∙ gather 4 N dx L (sq (dr * dy))
    where
      spread : (f n D L : ℕ) → f * n * D * (L * L) ≡ f * (n * L) * L * D
      spread f n D L = simp (mul_assoc, mul_comm, mul_left_comm)

      gather : (f N d L D : ℕ) → f * (N * d) * L * D ≡ f * N * L * (D * d)
      gather f N d L D = simp (mul_assoc, mul_comm, mul_left_comm)

  module _ (dp : 0 < sq (dr * dy) * dx) where
    below_is : (Q + Y) * (Q + Y) < 4 * N * L → sq (nr * dy + ny * dr) * dx < 4 * nx * sq (dr * dy)
    below_is h = lt_of_mul-lt-mul_right (L * L) (lt_of_le_of_lt (le_of_eq left_is) (lt_of_lt_of_le (mul-lt-mul_of_pos_right h dp) (le_of_eq (sym right_is))))

    above_is : 4 * N * L < (Q + Y) * (Q + Y) → 4 * nx * sq (dr * dy) < sq (nr * dy + ny * dr) * dx
    above_is h = lt_of_mul-lt-mul_right (L * L) (lt_of_le_of_lt (le_of_eq right_is) (lt_of_lt_of_le (mul-lt-mul_of_pos_right h dp) (le_of_eq (sym left_is))))

-- the order of the fractions is that of the units
units_lt : (na da nb db A B L : ℕ) → na * L ≡ A * da → nb * L ≡ B * db → 0 < L → na * db < nb * da → A < B
units_lt na da nb db A B L ea eb lp h =
    lt_of_mul-lt-mul_right (da * db)
    (lt_of_le_of_lt (le_of_eq (sym (mul_assoc A da db) ∙ ap (λ (x : ℕ). x * db) (sym ea) ∙ mul_right_comm na L db))
    (lt_of_lt_of_le (mul-lt-mul_of_pos_right h lp)
    (le_of_eq (mul_right_comm nb da L ∙ ap (λ (x : ℕ). x * da) eb ∙ mul_assoc B db da ∙ ap (λ (x : ℕ). B * x) (mul_comm db da)))))

-- ---- the root of a number by its parts
-- what is known of the root r of x, in units: x is N smallest values, r is n * 2 ^ k
record Found (x : Float) : Type 0 where
  N : ℕ
  k : ℕ
  m : ℕ
  v : ℕ
  value : HasValue x false N (2 ^ 1074)
  root : HasValue (sqrt_of x) false (suc m * 2 ^ k) (2 ^ 1074)
  four : 4 * v * (2 ^ k * 2 ^ k) ≡ 4 * N * 2 ^ 1074
  near : NearestWhole (suc m) v
  digits : 2 ^ 52 ≤ suc m
  big : 2 ^ 106 ≤ 4 * v

found : (x : Float) → T (fits binary64 x) → T (positive x) → Found x
found x fx px =
    let u = natural_units x fx (positive_natural x px) in
    let M = u.0 in
    let j = u.1 in
    let N : ℕ = M * 2 ^ j in
    let vx : HasValue x false N (2 ^ 1074) = u.4 in
    let np : 0 < N = value_pos x N (2 ^ 1074) px (pow_pos 1074) vx in
    let nr = normal (j + 52) N M np ((mul_assoc M (2 ^ j) (2 ^ 52) ∙ ap (λ (y : ℕ). M * y) (sym (pow-add 2 j 52))), first_pos M (2 ^ j) np, u.2, wide j u.3) in
    let c = nr.0 in
    let w = nr.1 in
    let p : Normal N c w = nr.2 in
    let X : ℕ = before c w in
    let v : ℕ = X * 2 ^ 52 in
    let z : ℕ = whole_root (4 * v) in
    let R : IsRoot z (4 * v) = whole_root-is (4 * v) in
    let zl : 2 ^ 53 < z + 1 = square_lt (2 ^ 53) (z + 1) (lt_of_le_of_lt (least X (doubled_ge c (w % 2) p.from)) R.1) in
    let zh : z < 2 ^ 54 = square_lt z (2 ^ 54) (lt_of_le_of_lt R.0 (most X (doubled_lt c (w % 2) p.below (last_bit w)))) in
    let n : ℕ = (z + 1) / 2 in
    let near : NearestWhole n v = half_up z v (omega arith) R in
    let d : Digits53 n = half z zl zh in
    let e : sqrt_of x ≡ units binary64 false n (w / 2 + 485) = root_is x N c w n vx np p near d in
    let m : ℕ = n - 1 in
    let s : suc m ≡ n = pred n d.0 in
    record {
      N = N;
      k = w / 2 + 485;
      m = m;
      v = v;
      value = vx;
      root = subst (λ (q : ℕ). HasValue (sqrt_of x) false (q * 2 ^ (w / 2 + 485)) (2 ^ 1074)) (sym s) (subst (λ (y : Float). HasValue y false (n * 2 ^ (w / 2 + 485)) (2 ^ 1074)) (sym e) (units_value n (w / 2 + 485) d.1 (small w p.top)));
      four = four_times N c w p.same;
      near = subst (λ (q : ℕ). NearestWhole q v) (sym s) near;
      digits = le_trans d.0 (le_of_eq (sym s));
      big = least X (doubled_ge c (w % 2) p.from);
    }
  where
    wide : (j : ℕ) → j ≤ 2045 → j + 52 ≤ 2097
    wide j h = omega arith

    least : (X : ℕ) → 2 ^ 52 ≤ X → 2 ^ 106 ≤ 4 * (X * 2 ^ 52)
    least X h = omega arith

    most : (X : ℕ) → X < 2 ^ 54 → 4 * (X * 2 ^ 52) < 2 ^ 54 * 2 ^ 54
    most X h = omega arith

    half : (z : ℕ) → 2 ^ 53 < z + 1 → z < 2 ^ 54 → Digits53 ((z + 1) / 2)
    half z h k = omega arith

    pred : (n : ℕ) → 2 ^ 52 ≤ n → suc (n - 1) ≡ n
    pred n h = omega arith

    small : (w : ℕ) → w ≤ 2097 → w / 2 + 485 ≤ 2044
    small w h = omega arith

nearest : (x : Float) → T (fits binary64 x) → T (positive x) → Nearest x (sqrt_of x)
nearest x fx px =
    let f = found x fx px in
    let r = sqrt_of x in
    let Q : ℕ = suc f.m * 2 ^ f.k in
    let cx = value→cross x f.N (2 ^ 1074) f.value in
    let cr = value→cross r Q (2 ^ 1074) f.root in
    let nx = positive_natural x px in
    let nr = value_natural r Q (2 ^ 1074) f.root in
    record {
      finite = nr;
      below = λ y fy ny h.
          let u = natural_units y fy ny in
          let Y : ℕ = u.0 * 2 ^ u.1 in
          let cy = value→cross y Y (2 ^ 1074) u.4 in
          middle_below x r y nx nr ny
          (below_is (num r) (den r) (num y) (den y) (num x) (den x) Q Y f.N (2 ^ 1074) cr cy cx (over x r y)
          (lt_of_lt_of_le (units_below (4 * f.v) f.m f.k u.0 u.1 f.digits u.2 f.big (above_low f.m f.v f.near) (units_lt (num y) (den y) (num r) (den r) Y Q (2 ^ 1074) cy cr (pow_pos 1074) (less y r ny nr h))) (le_of_eq f.four)));
      above = λ y fy ny h.
          let u = natural_units y fy ny in
          let Y : ℕ = u.0 * 2 ^ u.1 in
          let cy = value→cross y Y (2 ^ 1074) u.4 in
          middle_above x r y nx nr ny
          (above_is (num r) (den r) (num y) (den y) (num x) (den x) Q Y f.N (2 ^ 1074) cr cy cx (over x r y)
          (lt_of_le_of_lt (le_of_eq (sym f.four)) (units_above (4 * f.v) f.m f.k u.0 u.1 f.digits u.2 (below_high f.m f.v f.near) (units_lt (num r) (den r) (num y) (den y) Q Y (2 ^ 1074) cr cy (pow_pos 1074) (less r y nr ny h)))));
    }
  where
    over : (x r y : Float) → 0 < sq (den r * den y) * den x
    over x r y = mul-pos (mul-pos (mul-pos (den_pos r) (den_pos y)) (mul-pos (den_pos r) (den_pos y))) (den_pos x)

-- ---- the other cases
rounded_fits : (n : ℕ) → T (fits binary64 (rounded n))
unfolding rounded
rounded_fits n = round-fits binary64 false (whole_root n * 2 + cut (whole_root n) n) (2 ^ 601)

pub root_fits : (x : Float) → T (fits binary64 x) → T (fits binary64 (sqrt_of x))
unfolding sqrt_of
root_fits nan h = nan-fits binary64
root_fits (inf s) h = cond-fits binary64 s nan (inf false) (nan-fits binary64) (inf-fits binary64 false)
root_fits (fin s zero e) h = h
root_fits (fin s (suc m) e) h = cond-fits binary64 s nan (rounded (suc m * up e * 2 ^ 1200 / down e)) (nan-fits binary64) (rounded_fits (suc m * up e * 2 ^ 1200 / down e))

pub zero_root : (s : Bool) (e : ℤ) → sqrt_of (fin s zero e) ≡ fin s zero e
unfolding sqrt_of
zero_root s e = refl

pub infinity_root : sqrt_of (inf false) ≡ inf false
unfolding sqrt_of
infinity_root = refl

pub nan_root : sqrt_of nan ≡ nan
unfolding sqrt_of
nan_root = refl

pub negative_root : (x : Float) → T (below_zero x) → sqrt_of x ≡ nan
unfolding sqrt_of
negative_root nan h = absurd h
negative_root (inf true) h = refl
negative_root (inf false) h = absurd h
negative_root (fin s zero e) h = absurd h
negative_root (fin true (suc m) e) h = refl
negative_root (fin false (suc m) e) h = absurd h

pub standard : (x : Float) → T (fits binary64 x) → SquareRoot x (sqrt_of x)
standard x f = record {
  format = root_fits x f;
  nearest = nearest x f;
  zero = λ s e h. ap sqrt_of h ∙ zero_root s e ∙ sym h;
  infinity = λ h. ap sqrt_of h ∙ infinity_root ∙ sym h;
  negative = negative_root x;
  none = λ h. ap sqrt_of h ∙ nan_root;
}
