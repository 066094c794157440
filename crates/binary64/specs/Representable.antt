-- A float that binary64 holds is what its own value rounds to, and so it is itself times 1. Assumes nothing.
use Rattle.std.specs.Prelude.{◌≡◌, refl, ℕ, zero, suc, ◌+◌, ◌-◌, ◌*◌, ◌/◌, ◌%◌, ◌^◌, ◌≤◌, ◌<◌, Bool, true, false, ◌&&◌, cond, T, ltb, leb, eqb, ℤ, pos, negsuc, Float}
use Rattle.std.proofs.Common.{sym, ap, ap₂, ◌∙◌, subst, le_of_eq, le_of_suc-le-suc, lt_of_lt_of_le, lt_of_not-le, not-le_of_lt, mul_comm, mul_assoc, mul_right_comm, mul-one, zero-mul, mul-lt-mul_of_pos_right, ltb→lt, leb→le, pow_pos, pow-add}
use Rattle.std.proofs.Math.Pow.{pow-lt}
use Rattle.std.specs.Float.{nan, inf, fin, Format, binary64}
use Rattle.std.specs.Float.Ieee.{prec, emax, low, up, down, size, hid, top, unlike, round, mul, fits, to_bits, of_bits}
use Rattle.std.specs.Float.Ieee.Bits.{of_bits-to_bits}
use Rattle.std.specs.Float.Ieee.Digits.{back}
use Rattle.std.specs.Float.Ieee.Exact.{HasValue, round_exact}
use Rattle.std.specs.Float.Ieee.Fits.{down_pos, and_l, and_r, round-fits}
use Rattle.std.specs.Float.Ieee.Nearest.{div_same}
use Rattle.std.specs.Float.Ieee.Positive.{num, den, den_pos}
use Rattle.std.specs.Float.Ieee.Scale.{round_same, finite}
use Rattle.binary64.specs.Operators.{◌⊗◌, negative}
use Rattle.binary64.specs.Literals.{«1·0»}

-- ---- two floats that a format holds are equal where their sign and size are
same_bits : (f : Format) (x : Float) (s : Bool) (m : ℕ) (e : ℤ) → HasValue x s (m * up e) (down e) → to_bits f x ≡ to_bits f (fin s m e)
unfolding to_bits
same_bits f nan s m e h = absurd h
same_bits f (inf t) s m e h = absurd h
same_bits f (fin t n d) s m e h =
    ap₂ (λ (b : Bool) (n : ℕ). cond b (top f) 0 + (size n - prec f) * hid f + n / 2 ^ (size n - prec f)) h.0
    (div_same (n * up d * 2 ^ low f) (down d) (m * up e * 2 ^ low f) (down e) (down_pos d) (down_pos e) (mul_right_comm (n * up d) (2 ^ low f) (down e) ∙ ap (λ (z : ℕ). z * 2 ^ low f) h.1 ∙ mul_right_comm (m * up e) (down d) (2 ^ low f)))

unique : (f : Format) (x : Float) (s : Bool) (m : ℕ) (e : ℤ) → T (fits f x) → T (fits f (fin s m e)) → HasValue x s (m * up e) (down e) → x ≡ fin s m e
unique f x s m e p q h = sym (of_bits-to_bits f x p) ∙ ap (of_bits f) (same_bits f x s m e h) ∙ of_bits-to_bits f (fin s m e) q

-- ---- its own value is exact
pow_le_back : (i j : ℕ) → 2 ^ i ≤ 2 ^ j → i ≤ j
pow_le_back i j h = le_of_suc-le-suc (lt_of_not-le (λ (g : suc j ≤ i). not-le_of_lt (pow-lt g) h))

own_value : (f : Format) (s : Bool) (m : ℕ) (e : ℤ) → m < 2 ^ prec f → down e ≤ 2 ^ low f → m * up e < 2 ^ suc (emax f) * down e → HasValue (round f s (m * up e) (down e)) s (m * up e) (down e)
own_value f s m (pos k) a b c =
    let h : m * 2 ^ k * 2 ^ low f < 2 ^ suc (emax f) * 1 * 2 ^ low f = mul-lt-mul_of_pos_right c (pow_pos (low f)) in
    round_exact f s (m * 2 ^ k) 1 m (k + low f) (pow_pos 0) a
    (rw (pow-add 2 k (low f), pow-add 2 (low f) (suc (emax f))) (simp (mul-one, mul_assoc, mul_comm) at h))
    (rw (pow-add 2 k (low f)) (simp (mul-one, mul_assoc)))
own_value f s m (negsuc k) a b c =
    let l = low f in
    let j = l - suc k in
    let p : 2 ^ j * 2 ^ suc k ≡ 2 ^ l = sym (pow-add 2 j (suc k)) ∙ ap (λ (z : ℕ). 2 ^ z) (back l (suc k) (pow_le_back (suc k) l b)) in
    let h : m * 1 * 2 ^ j < 2 ^ suc (emax f) * 2 ^ suc k * 2 ^ j = mul-lt-mul_of_pos_right c (pow_pos j) in
    let q : 2 ^ suc (emax f) * 2 ^ suc k * 2 ^ j ≡ 2 ^ (l + suc (emax f)) = mul_assoc (2 ^ suc (emax f)) (2 ^ suc k) (2 ^ j) ∙ ap (λ (z : ℕ). 2 ^ suc (emax f) * z) (mul_comm (2 ^ suc k) (2 ^ j) ∙ p) ∙ mul_comm (2 ^ suc (emax f)) (2 ^ l) ∙ sym (pow-add 2 l (suc (emax f))) in
    round_exact f s (m * 1) (2 ^ suc k) m j (pow_pos (suc k)) a
    (subst (λ (z : ℕ). z * 2 ^ j < 2 ^ (l + suc (emax f))) (mul-one m) (lt_of_lt_of_le h (le_of_eq q)))
    (ap (λ (z : ℕ). z * 2 ^ l) (mul-one m) ∙ ap (λ (z : ℕ). m * z) (sym p) ∙ sym (mul_assoc m (2 ^ j) (2 ^ suc k)))

fits_value : (f : Format) (s : Bool) (m : ℕ) (e : ℤ) → T (fits f (fin s m e)) → HasValue (round f s (m * up e) (down e)) s (m * up e) (down e)
unfolding fits
fits_value f s zero e t = simp zero-mul (round_exact f s 0 (down e) 0 0 (down_pos e) (pow_pos (prec f)) (pow_pos (low f + suc (emax f))) (simp zero-mul))
fits_value f s (suc m) e t =
    let a = eqb (suc m % 2) 1 in
    let b = ltb (suc m) (2 ^ prec f) in
    let c = leb (down e) (2 ^ low f) in
    let d = ltb (suc m * up e) (2 ^ suc (emax f) * down e) in
    own_value f s (suc m) e
    (ltb→lt (suc m) (2 ^ prec f) (and_r a b (and_l (a && b) c (and_l (a && b && c) d t))))
    (leb→le (down e) (2 ^ low f) (and_r (a && b) c (and_l (a && b && c) d t)))
    (ltb→lt (suc m * up e) (2 ^ suc (emax f) * down e) (and_r (a && b && c) d t))

pub own_round : (f : Format) (x : Float) → T (finite x) → T (fits f x) → x ≡ round f (negative x) (num x) (den x)
own_round f nan p t = absurd p
own_round f (inf s) p t = absurd p
own_round f (fin s m e) p t = sym (unique f (round f s (m * up e) (down e)) s m e (round-fits f s (m * up e) (down e)) t (fits_value f s m e t))

-- ---- times 1, NaN and infinities too
unlike_false : (s : Bool) → unlike s false ≡ s
unlike_false true = refl
unlike_false false = refl

pub times_one : (x : Float) → T (fits binary64 x) → x ⊗ «1·0» ≡ x
unfolding mul of_bits
times_one nan t = refl
times_one (inf s) t = ap inf (unlike_false s)
times_one (fin s m e) t =
    let x = fin s m e in
    ap (λ (b : Bool). round binary64 b (num x * 1) (den x * 1)) (unlike_false s)
    ∙ round_same binary64 s (num x * 1) (den x * 1) (num x) (den x) (rw mul-one (den_pos x)) (den_pos x) (simp mul-one refl)
    ∙ sym (own_round binary64 x tt t)
