-- `sqrt` meets its contract. Assumes nothing.
use mathlib.Core.Path.{◌≡◌, sym, ap, ◌∙◌, subst}
use mathlib.Core.Bool.{true, false}
use mathlib.Core.Logic.{inl, inr}
use native.Mathlib.Nat.{eq-or-lt_of_le, lt_of_not-le}
use native.Mathlib.Decide.{dec_le}
use Prim.Native.Nat.{ℕ, zero, suc, ◌^◌, ◌≤◌, ◌<◌}
use native.Mathlib.Omega.{arith}
use lib.Dec.{T}
use lib.IntN.{pos}
use lib.Ieee.{Float, nan, binary64, of_bits, to_bits, fits}
use lib.Ieee.Bits.{of_bits-to_bits, to_bits-lt, of_bits-fits}
use Rattle.square_root.specs.Root.{sqrt_of}
use Rattle.square_root.specs.Standard.{SquareRoot}
use Rattle.square_root.proofs.Patterns.{nan_is, nan_literal, at_top, at_negative, no_nan_bits}
use Rattle.square_root.proofs.Standard.{standard, root_fits, zero_root, infinity_root, nan_root, negative_root}
use Rattle.square_root.proofs.sqrt.Goals as goal

-- both clauses of the contract, from the first; the format holds x
both : (x r : Float) → T (fits binary64 x) → r ≡ sqrt_of x → (r ≡ sqrt_of x) × SquareRoot x r
both x r f e = (e, subst (SquareRoot x) (sym e) (standard x f))

-- x is its own root where the value of its bits is
same : (x : Float) → T (fits binary64 x) → sqrt_of (of_bits binary64 (to_bits binary64 x)) ≡ of_bits binary64 (to_bits binary64 x) → x ≡ sqrt_of x
same x f h = sym (subst (λ (v : Float). sqrt_of v ≡ v) (of_bits-to_bits binary64 x f) h)

zeros : (sqrt_of (of_bits binary64 0) ≡ of_bits binary64 0) × (sqrt_of (of_bits binary64 (2 ^ 63)) ≡ of_bits binary64 (2 ^ 63))
unfolding of_bits
zeros = (zero_root false (pos 0), zero_root true (pos 0))

top : (b : ℕ) → ((0 < suc b) × (suc b < 0x7ff0_0000_0000_0000) → ⊥) → 0x7ff0_0000_0000_0000 ≤ suc b
top b n = elim (dec_le 0x7ff0_0000_0000_0000 (suc b)) [ yes l ↦ l | no k ↦ absurd (n (omega arith, lt_of_not-le k)) ]

-- the bits of a zero, of +infinity or of a NaN
own_root : (b : ℕ) → ((0 < b) × (b < 0x7ff0_0000_0000_0000) → ⊥) → b ≤ 2 ^ 63 → sqrt_of (of_bits binary64 b) ≡ of_bits binary64 b
own_root zero n h = zeros.0
own_root (suc b) n h = elim (eq-or-lt_of_le h) [
  | inl z ↦ subst (λ (b : ℕ). sqrt_of (of_bits binary64 b) ≡ of_bits binary64 b) (sym z) zeros.1
  | inr l ↦ at_top sqrt_of nan_root infinity_root (suc b) (top b n) l
]

pub returns-then-is_nan : goal.returns-then-is_nan
returns-then-is_nan c =
    let x = c.args.x in
    let e : x ≡ nan = nan_is x (sym c.is_nan.ensures.value ∙ c.if-is_nan.true) in
    let b = both x x (subst T (sym c.well_formed.0.1) tt) (e ∙ sym (ap sqrt_of e ∙ nan_root)) in
    record { value = b.0; square_root = b.1 }

pub returns-then-b-gt9223372036854775808 : goal.returns-then-b-gt9223372036854775808
returns-then-b-gt9223372036854775808 c =
    let x = c.args.x in
    let f : T (fits binary64 x) = (subst T (sym c.well_formed.0.1) tt) in
    let n = to_bits binary64 x in
    let lt : n < 2 ^ 64 = to_bits-lt binary64 x f in
    let b = both x _ f (nan_literal ∙ sym (subst (λ (v : Float). sqrt_of v ≡ nan) (of_bits-to_bits binary64 x f) (at_negative sqrt_of nan_root negative_root n c.if-b-gt9223372036854775808.true lt))) in
    record { value = b.0; square_root = b.1 }

pub float_from_bits-result : goal.float_from_bits-result
float_from_bits-result c = no_nan_bits c.in-Some.root (omega (arith, c.in-Some.ensures.upper_bound))

pub returns-in-Some : goal.returns-in-Some
returns-in-Some c =
    let x = c.args.x in
    let f : T (fits binary64 x) = (subst T (sym c.well_formed.0.1) tt) in
    let v = of_bits binary64 (to_bits binary64 x) in
    let b = both x _ f
    (ap (of_bits binary64) c.in-Some.ensures.value.1
    ∙ of_bits-to_bits binary64 (sqrt_of v) (root_fits v (of_bits-fits binary64 (to_bits binary64 x)))
    ∙ ap sqrt_of (of_bits-to_bits binary64 x f)) in
    record { value = b.0; square_root = b.1 }

pub returns-in-None : goal.returns-in-None
returns-in-None c =
    let x = c.args.x in
    let f : T (fits binary64 x) = (subst T (sym c.well_formed.0.1) tt) in
    let b = both x x f (same x f (own_root (to_bits binary64 x) c.in-None.ensures.value c.if-b-gt9223372036854775808.false)) in
    record { value = b.0; square_root = b.1 }
