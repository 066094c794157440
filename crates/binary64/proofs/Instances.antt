-- Closed floats at which the laws' premises hold, by computing: at a subnormal result, at the edge of overflow, and in between; and two bounds that do not hold. Assumes nothing.
use Rattle.std.specs.Prelude.{refl, ◌+◌, ◌-◌, ◌*◌, ◌^◌, false, T, pos, negsuc, Float}
use Rattle.std.proofs.Common.{lit<, lit≤}
use Rattle.std.specs.Float.{fin}
use Rattle.std.specs.Float.Ieee.{of_bits, fits, le, neg, add, sub, mul}
use Rattle.std.specs.Float.Ieee.Scale.{finite}
use Rattle.fraction.specs.Fraction.{whole, nat, pow2, frac, ◌+F◌, neg_f, ◌-F◌, ◌*F◌, ◌/F◌, inv, turned, ◌≈F◌, ◌within◌}
use Rattle.fraction.proofs.Field.{lt_not_le}
use Rattle.fraction.proofs.Order.{lit≤F, lit<F}
use Rattle.fraction.proofs.Size.{Size, size_nat, size_mul, size_inv}
use Rattle.binary64.specs.Operators.{◌⊕◌, ◌⊖◌, ◌⊗◌, ◌⊘◌, f64, count}
use Rattle.binary64.proofs.Bounds.{Scaled}
use Rattle.binary64.specs.Error.{u, Close}
use Rattle.binary64.proofs.Error.{rounding_error}
use Rattle.binary64.proofs.Near.{Near, fair, near_own, near_count, near_mul, near_div}
use Rattle.binary64.proofs.OrderLaws.{InBounds, stays, mul_le}
use Rattle.binary64.specs.Range.{exact, Within}
use Rattle.binary64.proofs.RangeOps.{literal, tested_within}
use Rattle.binary64.proofs.RangeOps.{mul_between, sub_over}
use Rattle.binary64.proofs.Rounds.{add_rounds, div_rounds}
use Rattle.binary64.specs.Value.{val}
use Rattle.binary64.specs.Literals.{«0·0», «0·001», «0·75», «1·0», «1·5», «3·0», «5·0»}

abbrev zero : Float
zero = «0·0»

abbrev one : Float
one = «1·0»

abbrev three : Float
three = «3·0»

abbrev five : Float
five = «5·0»

-- 2 ^ -1074, 2 ^ -1022, 2 ^ -53
abbrev smallest : Float
smallest = f64 1

abbrev least_normal : Float
least_normal = f64 0x0010_0000_0000_0000

abbrev speck : Float
speck = f64 0x3ca0_0000_0000_0000

-- 2 ^ 1022, and the float below it
abbrev half_top : Float
half_top = f64 0x7fd0_0000_0000_0000

abbrev below_half : Float
below_half = f64 0x7fcf_ffff_ffff_ffff

-- ---- what literals and operators stand for
minus_three_halves : val (neg «1·5») ≈F frac (negsuc 2) 2 tt
unfolding of_bits neg val neg_f
minus_three_halves = record { cross = refl }

five_less_three : val (five ⊖ three) ≈F nat 2
unfolding of_bits sub val whole
five_less_three = record { cross = refl }

-- ---- the error: 2 ^ -1022 / 3 is subnormal, and 2 ^ 1022 + (2 ^ 1022 - 2 ^ 969) is just below 2 ^ 1023
normal_size : Size (val least_normal) 1022 1023
unfolding of_bits val whole ◌*F◌
normal_size = record { low = lit≤F tt; high = lit≤F tt }

third_in : val least_normal /F val three within val least_normal
unfolding of_bits val whole ◌*F◌ neg_f inv turned
third_in = record { lo = lit≤F tt; hi = lit≤F tt }

subnormal : Close (least_normal ⊘ three) (val least_normal /F val three) (val least_normal *F u)
unfolding of_bits
subnormal = rounding_error (div_rounds least_normal three tt tt (lit< tt)) third_in normal_size

edge_size : Size (pow2 1023) 1022 1023
unfolding whole ◌*F◌
edge_size = record { low = lit≤F tt; high = lit≤F tt }

edge_in : val half_top +F val below_half within pow2 1023
unfolding of_bits val whole ◌+F◌ neg_f
edge_in = record { lo = lit≤F tt; hi = lit≤F tt }

edge : Close (half_top ⊕ below_half) (val half_top +F val below_half) (pow2 1023 *F u)
unfolding of_bits
edge = rounding_error (add_rounds half_top below_half tt tt) edge_in edge_size

-- 2 ^ -53 cannot be halved: 1 ⊕ 2 ^ -53 is 1
not_half : val (one ⊕ speck) -F (val one +F val speck) within (val one +F val speck) *F frac (pos 1) (2 ^ 54) tt → ⊥
unfolding of_bits add val ◌+F◌ ◌*F◌ neg_f
not_half h = lt_not_le (lit<F tt) h.lo

-- and A cannot be below 2 ^ -1022: 2 ^ -1074 · 3/4 rounds to 2 ^ -1074
not_lower : val (smallest ⊗ «0·75») -F val smallest *F val «0·75» within val smallest *F u → ⊥
unfolding of_bits mul val ◌+F◌ ◌*F◌ neg_f u
not_lower h = lt_not_le (lit<F tt) h.hi

-- nor is a sum free of an error of its own
not_free : Near (one ⊕ speck) (val one +F val speck) (nat 1) 0 2 → ⊥
unfolding of_bits add val whole ◌+F◌ ◌*F◌ neg_f u
not_free h = lt_not_le (lit<F tt) h.error.lo

-- ---- what binary64 holds: the largest value and the smallest, and not 2 ^ 53 + 1, 1/3, 2 ^ 1024 or 2 ^ -1075
representable_ends : T (exact ((2 ^ 53 - 1) * 2 ^ 971) 1) × T (exact 1 (2 ^ 1074))
representable_ends = (tt, tt)

digits_missing : T (exact (2 ^ 53 + 1) 1) → ⊥
digits_missing t = t

third_missing : T (exact 1 3) → ⊥
third_missing t = t

large_missing : T (exact (2 ^ 1024) 1) → ⊥
large_missing t = t

small_missing : T (exact 1 (2 ^ 1075)) → ⊥
small_missing t = t

-- ---- ranges: 2 ^ -600 · 2 ^ -470 is subnormal; 1 - x for x tested from 1e-3 to 1 is from 0 to 1
product_range : Within (fin false 1 (negsuc 599) ⊗ fin false 1 (negsuc 469)) 1 (2 ^ 1070) 1 (2 ^ 1070)
product_range = mul_between (literal (fin false 1 (negsuc 599)) 1 (2 ^ 600) 1 (2 ^ 600) tt tt tt tt tt) (literal (fin false 1 (negsuc 469)) 1 (2 ^ 470) 1 (2 ^ 470) tt tt tt tt tt) 1 (2 ^ 1070) 1 (2 ^ 1070) tt tt tt tt

rest_range : (x : Float) → T (le «0·001» x) → T (le x one) → Within (one ⊖ x) 2 1 0 1
unfolding of_bits
rest_range x h k = sub_over (literal one 1 1 1 1 tt tt tt tt tt) (tested_within «0·001» x one tt tt h k).0 2 1 0 1 tt tt tt tt tt

-- ---- order: 1/3 rounds to a value from 0 to 1; and a product by 3
third_in_bounds : InBounds zero (one ⊘ three) one
unfolding of_bits val whole ◌*F◌ inv turned fits
third_in_bounds = stays zero one (div_rounds one three tt tt (lit< tt)) tt tt tt tt (lit≤F tt) (lit≤F tt)

tripled : (x y : Float) → T (finite x) → T (finite y) → T (le x y) → T (le (x ⊗ three) (y ⊗ three))
unfolding of_bits val whole
tripled x y p q h = mul_le x y three p q h tt (lit≤F tt)

-- ---- near values: 3 ⊗ 3 ⊘ 5, each at its own scale
scaled_three : Scaled three 0 2
unfolding of_bits val whole ◌*F◌
scaled_three = record { fine = tt; size = record { low = lit≤F tt; high = lit≤F tt } }

ratio_near : Near (three ⊗ three ⊘ count 5) (val three *F val three /F nat 5) (val three *F val three /F nat 5) 4 1
ratio_near =
    let s = size_mul scaled_three.size scaled_three.size in
    near_div (near_mul (near_own scaled_three tt tt) (near_own scaled_three tt tt) (fair s tt tt) tt) (near_count 5 (lit≤ tt) (lit≤ tt)) (fair (size_mul s (size_inv (size_nat 5 3 (lit≤ tt) (lit≤ tt)))) tt tt) tt
