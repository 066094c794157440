-- Up to 2 ^ -26 in size H of x is x, bit for bit: (x * x) / 6 is then at most half of a last place below 1, and leaves it 1. Assumes nothing.
use mathlib.Core.Path.{◌≡◌, refl, sym, ap, ◌∙◌, subst₂}
use mathlib.Core.Bool.{true, false, not}
use Prim.Native.Nat.{◌^◌}
use native.Mathlib.Omega.{arith}
use lib.Dec.{T}
use lib.Ieee.{Float, binary64, add, neg, le, round, size, fits, of_bits}
use lib.Ieee.Bits.{is_true}
use lib.Ieee.Fits.{sub-fits}
use lib.Ieee.Positive.{den_pos}
use Rattle.binary64.specs.Operators.{◌⊕◌, ◌⊖◌, ◌⊗◌, ◌⊘◌, f64, negative}
use Rattle.binary64.specs.Literals.{«0·0009765625», «6·0»}
use Rattle.binary64.specs.Opened.{sub_is}
use Rattle.binary64.specs.Order.{not→lt, le→below}
use Rattle.binary64.proofs.OrderLaws.{add_le}
use Rattle.binary64.specs.Range.{Most, Sized, sized, neg_most}
use Rattle.binary64.proofs.RangeOps.{mul_most, div_most, sub_over}
use Rattle.binary64.proofs.RangeTests.{most_le, most_ge}
use Rattle.binary64.specs.Representable.{times_one}
use Rattle.min_max.specs.MinMax.{abs_of}
use Rattle.elementary.specs.Exp.{one}
use Rattle.elementary.specs.Asinh.{asinh_taylor, is_small, asinh_of}
use Rattle.elementary.specs.AsinhForms.{asinh_taylor_lem}
use Rattle.elementary.proofs.AsinhRange.{abs_most}
use Rattle.elementary.proofs.Constants.{at_1, at_6}
use Rattle.elementary.proofs.LastTermsLaws.{Near, one_near, one_le, antisym}

-- 2 ^ -54, half of the last place below 1
abbrev half : Float
half = f64 0x3c90_0000_0000_0000

-- added to 1 or taken from it, it leaves 1: of two as near the even one
half_lost : (one ⊕ neg half ≡ one) × (one ⊕ half ≡ one)
unfolding add neg round size of_bits
half_lost = (refl, refl)

one_kept : (q : Float) → Sized q 1 (2 ^ 54) → one ⊖ q ≡ one
unfolding neg of_bits
one_kept q h = antisym near one_near below above
  where
    n : Most (neg q) (not (negative q)) 1 (2 ^ 54)
    n = neg_most h

    near : Near (one ⊖ q)
    near = (sub_over at_1 h 5 4 3 4 tt tt tt tt tt, sub-fits binary64 one q)

    below : T (le (one ⊖ q) one)
    below = subst₂ (λ (y z : Float). T (le y z)) (sym (sub_is binary64 one q)) half_lost.1 (add_le one one (neg q) half tt tt n.fine tt one_le (most_le n half tt tt))

    above : T (le one (one ⊖ q))
    above = subst₂ (λ (y z : Float). T (le y z)) half_lost.0 (sym (sub_is binary64 one q)) (add_le one one (neg half) (neg q) tt tt tt n.fine one_le (most_ge n half tt tt))

small : (x : Float) → Sized x 1 (2 ^ 26) → is_small x ≡ true
unfolding of_bits
small x h = is_true (is_small x) (not→lt (abs_of x) «0·0009765625» a.fine tt refute)
  where
    a : Most (abs_of x) false 1 (2 ^ 26)
    a = abs_most x 1 (2 ^ 26) h

    refute : T (le «0·0009765625» (abs_of x)) → ⊥
    refute k =
        let b = rw a.sign at (le→below «0·0009765625» (abs_of x) tt a.fine k) in
        let c = a.most in
        let d = den_pos (abs_of x) in
        omega arith

pub asinh_linear : (x : Float) → T (fits binary64 x) → Sized x 1 (2 ^ 26) → asinh_of x ≡ x
unfolding asinh_taylor
asinh_linear x f h =
    let q : Sized ((x ⊗ x) ⊘ «6·0») 1 (2 ^ 54) = sized (div_most (mul_most h h 1 (2 ^ 52) tt tt) at_6 1 (2 ^ 54) tt tt tt) in
    asinh_taylor_lem x (small x h) ∙ ap (λ (z : Float). x ⊗ z) (one_kept ((x ⊗ x) ⊘ «6·0») q) ∙ times_one x f
