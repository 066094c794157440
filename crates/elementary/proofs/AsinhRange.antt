-- H(x) is finite for an x of at most 2 ^ 499 in size, which is above 1e150. Assumes nothing.
use mathlib.Core.Path.{◌≡◌, refl, sym, subst}
use mathlib.Core.Bool.{Bool, true, false, cond}
use Prim.Native.Nat.{ℕ, ◌^◌}
use lib.Dec.{T, lit<}
use lib.Ieee.{Float, nan, inf, fin, binary64, neg, le, round, size, fits, of_bits}
use lib.Ieee.Scale.{finite}
use lib.Ieee.Positive.{own_value}
use lib.Ieee.Bits.{of_bits-fits}
use lib.Ieee.Fits.{add-fits}
use Rattle.binary64.specs.Operators.{◌⊕◌, ◌⊖◌, ◌⊗◌, ◌⊘◌, f64, negative}
use Rattle.binary64.specs.Literals.{«0·0009765625», «6·0»}
use Rattle.binary64.specs.Range.{Most, Within, Sized, sized, neg_most}
use Rattle.binary64.proofs.Range.{most_of_le}
use Rattle.binary64.proofs.RangeOps.{least_zero}
use Rattle.binary64.proofs.RangeOps.{mul_most, div_most, add_alike, sub_most}
use Rattle.binary64.proofs.RangeTests.{within_positive, within_ge, most_le}
use Rattle.square_root.specs.Root.{sqrt_of, rounded, whole_root, root_below}
use Rattle.square_root.proofs.Range.{sqrt_within}
use Rattle.elementary.specs.Exp.{one}
use Rattle.min_max.specs.MinMax.{abs_of}
use Rattle.elementary.specs.Asinh.{asinh_at, asinh_log, asinh_taylor, is_small, asinh_of}
use Rattle.elementary.specs.AsinhForms.{asinh_taylor_lem, asinh_log_lem}
use Rattle.elementary.proofs.Constants.{at_1, at_6}
use Rattle.elementary.proofs.LnRange.{ln_finite}

pub abs_most : (x : Float) (A C : ℕ) → Sized x A C → Most (abs_of x) false A C
abs_most nan A C h = absurd h.fine
abs_most (inf s) A C h = absurd h.fine
abs_most (fin s m e) A C h = record { over = h.over; fine = tt; sign = refl; most = h.most }

-- the root of what is from 1 to 2 ^ 1000, by the roots of the ends: 2 ^ 1000 and 2 ^ 500
root_ends : (sqrt_of one ≡ one) × (sqrt_of (f64 0x7e70_0000_0000_0000) ≡ f64 0x5f30_0000_0000_0000)
unfolding sqrt_of rounded whole_root root_below round size of_bits
root_ends = (refl, refl)

root_within : (z : Float) → T (fits binary64 z) → Within z (2 ^ 1000) 1 1 1 → Within (sqrt_of z) (2 ^ 500) 1 1 1
unfolding of_bits
root_within z f w =
    let top = f64 0x7e70_0000_0000_0000 in
    sqrt_within one top one (f64 0x5f30_0000_0000_0000) (of_bits-fits binary64 0x3ff0_0000_0000_0000) (of_bits-fits binary64 0x7e70_0000_0000_0000) tt tt tt tt root_ends.0 root_ends.1 z f (within_ge w one tt tt tt) (most_le w.0 top tt tt)

at_sized : (a : Float) → Most a false (2 ^ 499) 1 → Sized (asinh_at a) 11939 16
at_sized a h =
    let z = (a ⊗ a) ⊕ one in
    let w : Within z (2 ^ 1000) 1 1 1 = add_alike (mul_most h h (2 ^ 998) 1 tt tt, least_zero) at_1 (2 ^ 1000) 1 1 1 tt tt tt tt in
    let r = root_within z (add-fits binary64 (a ⊗ a) one) w in
    let v : Within (a ⊕ sqrt_of z) (2 ^ 501) 1 1 1 = add_alike (h, least_zero) r (2 ^ 501) 1 1 1 tt tt tt tt in
    ln_finite (a ⊕ sqrt_of z) (add-fits binary64 a (sqrt_of z)) (within_positive v tt)

log_sized : (x : Float) → Sized x (2 ^ 499) 1 → Sized (asinh_log x) 11939 16
unfolding asinh_log
log_sized x h = go (negative x)
  where
    r : Sized (asinh_at (abs_of x)) 11939 16
    r = at_sized (abs_of x) (abs_most x (2 ^ 499) 1 h)

    go : (b : Bool) → Sized (cond b (neg (asinh_at (abs_of x))) (asinh_at (abs_of x))) 11939 16
    go true = sized (neg_most r)
    go false = r

-- what is tested to be small is at most 2 ^ -10
small_sized : (x : Float) → is_small x ≡ true → T (finite x) → Sized x 1 1024
unfolding le of_bits
small_sized nan h f = absurd f
small_sized (inf s) h f = absurd f
small_sized (fin s m e) h f = record { over = r.over; fine = tt; sign = refl; most = r.most }
  where
    r : Most (fin false m e) false 1 1024
    r = most_of_le (fin false m e) «0·0009765625» 1 1024 refl (lit< tt) (own_value «0·0009765625» tt) (rw h tt)

taylor_sized : (x : Float) → Sized x 1 1024 → Sized (asinh_taylor x) 11939 16
unfolding asinh_taylor
taylor_sized x h =
    let sixth = div_most (mul_most h h 1 (2 ^ 20) tt tt) at_6 1 (2 ^ 22) tt tt tt in
    let factor : Sized (one ⊖ ((x ⊗ x) ⊘ «6·0»)) 2 1 = sub_most at_1.0 sixth 2 1 tt tt in
    sized (mul_most h factor 11939 16 tt tt)

pub asinh_finite : {x : Float} → Sized x (2 ^ 499) 1 → Sized (asinh_of x) 11939 16
asinh_finite {x} h = go (is_small x) refl
  where
    go : (b : Bool) → is_small x ≡ b → Sized (asinh_of x) 11939 16
    go true e = subst (λ (y : Float). Sized y 11939 16) (sym (asinh_taylor_lem x e)) (taylor_sized x (small_sized x e h.fine))
    go false e = subst (λ (y : Float). Sized y 11939 16) (sym (asinh_log_lem x e)) (log_sized x h)
