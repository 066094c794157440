-- `ln` meets its contract. Assumes nothing.
use mathlib.Core.Path.{◌≡◌, refl, sym, ap, ◌∙◌, subst}
use mathlib.Core.Bool.{true, false, ◌||◌, beq, true≢false}
use mathlib.Core.Logic.{◌≢◌}
use Prim.Native.Nat.{ℕ, zero, suc, ◌+◌, ◌*◌, ◌/◌, ◌%◌, ◌^◌, ◌≤◌, ◌<◌}
use native.Mathlib.Nat.{lt_irrefl, lt_of_not-le, mul-pos, zero-lt-suc, zero-mul}
use native.Mathlib.Decide.{dec_le}
use native.Mathlib.Omega.{arith}
use lib.Arith.{lt_of_le-ne}
use lib.Dec.{T, eqb, eqb→eq, lit<}
use lib.Ieee.{Float, nan, inf, fin, binary64, minus, fits, up, down, eq, of_bits, to_bits}
use lib.Ieee.Fits.{and_l, up_pos}
use lib.Ieee.Bits.{of_bits-to_bits, to_bits-lt, of_bits-fits}
use Rattle.binary64.specs.Operators.{◌⊘◌, f64}
use Rattle.binary64.specs.Literals.{«0·0»}
use Rattle.square_root.specs.Parts.{units_of, Normal, PartsOf}
use Rattle.square_root.proofs.Patterns.{positive_value, positive_units, at_top, at_negative, no_nan_bits, nan_is, nan_literal}
use Rattle.elementary.specs.Ln.{two, ln_parts, ln_split, ln_of}
use Rattle.elementary.proofs.LnLaws.{split_small, split_large}
use Rattle.elementary.proofs.LnSplits.{ln_split_lem, nan_ln, infinity_ln, zero_ln, negative_ln}
use Rattle.elementary.proofs.ln.Goals as goal

-- the logarithm of x, by the parts of the number whose bits are b
split : (x : Float) (b c w : ℕ) → f64 b ≡ x → 0 < b → b < 0x7ff0_0000_0000_0000 → Normal (units_of (b / 2 ^ 52) (b % 2 ^ 52)) c w → ln_of x ≡ ln_split (f64 (0x3fe0_0000_0000_0000 + c)) (minus w 1074)
split x b c w e p q n =
    ap ln_of (sym e)
    ∙ ln_split_lem (f64 b) (units_of (b / 2 ^ 52) (b % 2 ^ 52)) c w (of_bits-fits binary64 b) (positive_value b q) (positive_units b p) n

-- of a zero
ln_zero : (x : Float) → eq x «0·0» ≡ true → ln_of x ≡ inf true
unfolding eq of_bits
ln_zero nan h = absurd (true≢false (sym h))
ln_zero (inf s) h = absurd (true≢false (sym h))
ln_zero (fin s zero e) h = zero_ln s e
ln_zero (fin s (suc m) e) h = absurd (lt_irrefl 0 (subst (λ (n : ℕ). 0 < n) nothing (mul-pos (mul-pos (zero-lt-suc m) (up_pos e)) (lit< tt))))
  where
    nothing : suc m * up e * 1 ≡ 0
    nothing =
        let z = 0 * 1 * down e in
        eqb→eq (suc m * up e * 1) z (and_l (eqb (suc m * up e * 1) z) (beq s false || eqb (suc m * up e * 1) 0) (subst T (sym h) tt)) ∙ zero-mul (down e)

minus_infinity : inf true ≡ f64 0xfff0_0000_0000_0000
unfolding of_bits
minus_infinity = refl

-- neither zero has these bits
not_zero : (x : Float) (b : ℕ) → f64 b ≡ x → eq x «0·0» ≡ false → (0 < b) × (2 ^ 63 ≢ b)
unfolding eq of_bits
not_zero x zero e h = absurd (true≢false (ap (λ (v : Float). eq v «0·0») e ∙ h))
not_zero x (suc b) e h = (omega arith, λ z. absurd (true≢false (ap (λ (v : Float). eq v «0·0») (ap f64 z ∙ e) ∙ h)))

-- no parts, and not zero
no_parts : (b : ℕ) → 0 < b → PartsOf b 0 0 → 0x7ff0_0000_0000_0000 ≤ b
no_parts b p h = elim (dec_le 0x7ff0_0000_0000_0000 b) [ yes l ↦ l | no k ↦ absurd (none (h.number p (lt_of_not-le k)).from) ]
  where
    none : 2 ^ 52 ≤ 0 → ⊥
    none h = omega arith

pub returns-then-is_nan : goal.returns-then-is_nan
returns-then-is_nan c =
    let e = nan_is c.args.x (sym c.is_nan.ensures.value ∙ c.if-is_nan.true) in e ∙ sym (ap ln_of e ∙ nan_ln)

pub returns-then-x : goal.returns-then-x
returns-then-x c =
    sym (ln_zero c.args.x c.if-x.true ∙ minus_infinity)

pub returns-then-b-ge9223372036854775808 : goal.returns-then-b-ge9223372036854775808
returns-then-b-ge9223372036854775808 c =
    let x = c.args.x in
    let f : T (fits binary64 x) = (subst T (sym c.well_formed.0.1) tt) in
    let lt : to_bits binary64 x < 2 ^ 64 = to_bits-lt binary64 x f in
    let e = of_bits-to_bits binary64 x f in
    nan_literal ∙ sym (subst (λ (v : Float). ln_of v ≡ nan) e (at_negative ln_of nan_ln negative_ln (to_bits binary64 x) (lt_of_le-ne c.if-b-ge9223372036854775808.true
    (not_zero x _ e c.if-x.false).1) lt))

pub returns-in_default : goal.returns-in_default
returns-in_default c =
    let x = c.args.x in
    let b = to_bits binary64 x in
    let e : f64 b ≡ x = of_bits-to_bits binary64 x (subst T (sym c.well_formed.0.1) tt) in
    sym (subst (λ (v : Float). ln_of v ≡ v) e (at_top ln_of nan_ln infinity_ln b (no_parts b (not_zero x b e c.if-x.false).0 c.in_default.ensures.parts) c.if-b-ge9223372036854775808.false))

pub float_from_bits-m : goal.float_from_bits-m
float_from_bits-m c =
    let r = c.in-Some.ensures in
    no_nan_bits (0x3fe0_0000_0000_0000 + c.in-Some.p.c) (omega (arith, (r.parts.number r.number.0 r.number.1).below))

pub returns-then-m : goal.returns-then-m
returns-then-m c =
    let x = c.args.x in
    let p = c.in-Some.p in
    let r = c.in-Some.ensures in
    let m = f64 (0x3fe0_0000_0000_0000 + p.c) in
    c.ln_parts.ensures ∙ ap (ln_parts (m ⊘ two)) c.exponent.ensures
    ∙ sym (split x (to_bits binary64 x) p.c p.w (of_bits-to_bits binary64 x (subst T (sym c.well_formed.0.1) tt)) r.number.0 r.number.1 (r.parts.number r.number.0 r.number.1)
    ∙ split_large m p.w c.if-m.true)

pub returns : goal.returns
returns c =
    let x = c.args.x in
    let p = c.in-Some.p in
    let r = c.in-Some.ensures in
    let m = f64 (0x3fe0_0000_0000_0000 + p.c) in
    c.ln_parts-2.ensures ∙ ap (ln_parts m) c.exponent-2.ensures
    ∙ sym (split x (to_bits binary64 x) p.c p.w (of_bits-to_bits binary64 x (subst T (sym c.well_formed.0.1) tt)) r.number.0 r.number.1 (r.parts.number r.number.0 r.number.1)
    ∙ split_small m (minus p.w 1074) c.if-m.false)
