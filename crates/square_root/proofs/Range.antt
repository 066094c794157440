-- The range of a root by the roots of the ends of the range. Assumes nothing.
use mathlib.Core.Path.{◌≡◌, subst}
use lib.Dec.{T}
use lib.Ieee.{Float, binary64, le, fits}
use lib.Ieee.Positive.{num, den, positive, between}
use Rattle.binary64.specs.Range.{Within}
use Rattle.binary64.proofs.RangeTests.{tested_within}
use Rattle.square_root.specs.Root.{sqrt_of}
use Rattle.square_root.proofs.Fractions.{positive_natural}
use Rattle.square_root.proofs.Monotone.{sqrt_mono}

-- bottom is the root of lo, and top that of hi
pub sqrt_within : (lo hi bottom top : Float) → T (fits binary64 lo) → T (fits binary64 hi) → T (positive lo) → T (positive hi) → T (positive bottom) → T (positive top) → sqrt_of lo ≡ bottom → sqrt_of hi ≡ top
    → (x : Float) → T (fits binary64 x) → T (le lo x) → T (le x hi) → Within (sqrt_of x) (num top) (den top) (num bottom) (den bottom)
sqrt_within lo hi bottom top fl fh pl ph pb pt e f x fx h k =
    let n = positive_natural x (between lo x hi pl ph h k) in
    tested_within bottom (sqrt_of x) top pb pt
    (subst (λ (r : Float). T (le r (sqrt_of x))) e (sqrt_mono lo x fl fx (positive_natural lo pl) n h))
    (subst (λ (r : Float). T (le (sqrt_of x) r)) f (sqrt_mono x hi fx fh n (positive_natural hi ph) k))
