-- The laws at work: a range, an error, and a chain of near values. Assumes nothing.
use Rattle.std.specs.Prelude.{[], ◌∷◌, ℕ, ◌^◌, ◌≤◌, Bool, T, Float}
use Rattle.std.specs.Float.Ieee.{of_bits}
use Rattle.std.specs.Float.Ieee.Scale.{finite}
use Rattle.fraction.specs.Fraction.{Fraction, whole, nat, ◌+F◌, ◌*F◌, ◌within◌}
use Rattle.fraction.proofs.Field.{≈F-refl}
use Rattle.fraction.proofs.Certificate.{quote}
use Rattle.fraction.proofs.Certificate.{within_by, hi, lo, ◌⊞◌}
use Rattle.fraction.proofs.Order.{lit≤F}
use Rattle.binary64.specs.Operators.{◌⊕◌, ◌⊗◌, ◌⊘◌, count}
use Rattle.binary64.specs.Error.{u, Close}
use Rattle.binary64.proofs.Error.{rounding_error}
use Rattle.binary64.proofs.Near.{Fair, Near, exact, near_add, near_mul}
use Rattle.binary64.specs.Range.{Most, Within}
use Rattle.binary64.proofs.RangeOps.{literal}
use Rattle.binary64.proofs.RangeOps.{mul_most, div_count, add_over}
use Rattle.binary64.proofs.Rounds.{add_rounds}
use Rattle.binary64.specs.Value.{val}
use Rattle.binary64.specs.Literals.{«1·0»}

abbrev one : Float
one = «1·0»

-- a range: with a from 31/32 to 33/32 and |y| ≤ 5/256, 1 ⊕ a ⊗ y ⊘ k is from 31/32 to 33/32
series_term : {a y : Float} {s : Bool} → Within a 33 32 31 32 → Most y s 5 256 → (k : ℕ) → 1 ≤ k → k ≤ 2 ^ 53 → Within (one ⊕ a ⊗ y ⊘ count k) 33 32 31 32
unfolding of_bits
series_term h g k l m = add_over (literal one 1 1 1 1 tt tt tt tt tt) (div_count (mul_most h.0 g 1 32 tt tt) k 1 1 32 l m tt tt tt) 33 32 31 32 tt tt tt tt tt

-- an error: a sum of at most 2 in size is within 2 / 2 ^ 53 of the exact one
sum_error : (x y : Float) → T (finite x) → T (finite y) → val x +F val y within nat 2 → Close (x ⊕ y) (val x +F val y) (nat 2 *F u)
unfolding whole ◌*F◌
sum_error x y p q w = rounding_error (add_rounds x y p q) w (record { low = lit≤F tt; high = lit≤F tt })

-- a chain: for |x|, |y| ≤ κ and |z| ≤ μ the sum has 3 roundings at size 2, and the product 3 · 1 + 0 · 2 + 2 · 1 + 1 at size 2 · 1
chain : (x y z : Float) (κ μ : Fraction) → T (finite x) → T (finite y) → T (finite z) → Fair κ → Fair μ → Fair (κ *F μ) → val x within κ *F nat 1 → val y within κ *F nat 1 → val z within μ *F nat 1
    → Near ((x ⊕ y) ⊗ z) ((val x +F val y) *F val z) (κ *F μ) 6 2
chain x y z κ μ p q r f g i hx hy hz = near_mul (near_add (exact p ≈F-refl f 1 hx tt) (exact q ≈F-refl f 1 hy tt) 2 size tt) (exact r ≈F-refl g 1 hz tt) i tt
  where
    size : val x +F val y within κ *F nat 2
    size = within_by (val x ∷ val y ∷ κ ∷ []) 0 (hi hx ⊞ hi hy) (lo hx ⊞ lo hy) (search quote depth 24) tt tt
