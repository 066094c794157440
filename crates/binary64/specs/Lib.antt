-- The arithmetic of binary64, IEEE 754's double precision with rounding to the nearest, ties to even: what it is and what one may rely on. Nothing is assumed: the definitions are lib.Ieee's.
--
-- What is defined
--   Operators   x ⊕ y, x ⊖ y, x ⊗ y, x ⊘ y, each one operation, so one rounding; `f64 bits` a literal, `count n` a whole number, `negative x` the sign
--   Decimal     a literal's pattern against its decimal, rounded once
--   Range       `Most x s A C`: finite, of the sign s, |x| ≤ A / C.  `Least x B E`: |x| ≥ B / E.  `Between x s A C B E` both, `Within` of the sign +, `Sized` of any sign.
--               `exact A C`: A / C is a value of binary64, a test that computes
--   Value       `val x`: the value of a finite float as a fraction (0 for a NaN and an infinity)
--   Rounds      `Rounds Q r`: r is the fraction Q rounded
--   Error       `Close r Q E`: r is finite and |val r − Q| ≤ E;  `u` = 2 ^ -53
--   Bounds      `Bounded r B`: finite, |val r| ≤ B.  `Scaled r e f`: finite, 2 ^ -e ≤ val r ≤ 2 ^ f
--   Near        `Near x q κ k b`: finite, |val x − q| ≤ k · κ · u and |q| ≤ b · κ, for a scale κ that is `Fair` (from 2 ^ -1000 to 2 ^ 900)
--
-- What is proved, in proofs/ but for Sign, Order, Opened, Nearest, Representable and Monotone; Rounds, Bounds and Near stand there with their definitions
--   RangeTests  where ranges start: literal for closed floats, int-between and count-within for whole numbers, tested-within and tested-sized from a program's comparisons;
--               and where they end: most-le, most-ge, within-ge, within-positive. In Range most-wider and least-wider widen them
--   RangeOps    the range of each operation's result from those of its operands: mul- and div-between, add- and sub-alike, -unlike (operands of one sign, of opposite ones),
--               -over (the first operand is the larger), each -most (bounds from above only); div-count by a whole number
--   Value       le-val, val-le, lt-val, val-lt: the order of finite floats is that of their values;  val-neg;  int-val: whole numbers up to 2 ^ 53 are held
--   Rounds      add-, sub-, mul-, div-rounds: each operation rounds its exact result;  representable: a float that binary64 holds is its own value rounded;  times-one, in Representable: and itself times 1
--   Error       rounding-error: for any A from 2 ^ -1022 to 2 ^ 1023 with |Q| ≤ A, Q rounded is finite and within A · u of Q, subnormal results included
--   OrderLaws   rounds-le: rounding keeps the order;  stays: it never crosses a float that binary64 holds;  rounds-nonneg, rounds-nonpos;  add-, mul-, div-le, sub-, mul-, div-ge (and neg-le in Order)
--   Bounds      rounds-bounded, bounded-pow, rounds-scaled: rounding keeps bounds that are floats or powers of 2;  scaled- and bounded-mul, -div;
--               most-bounded, bounded-most, within-scaled join Range and Value
--   Near        an error bound carried through each operation, one rounding more each time: near-neg, -add, -sub, -mul, -div, -factor (an exact factor that may be tiny), rescale;
--               chains start from exact, near-own and near-count
-- Sign, Order, Opened, Nearest, Representable and Monotone hold what these rest on, over natural numbers: each operation as one call of `round`, and what `round` does.
--
-- How to use it (Examples has these lines in full, Instances closed floats at which the premises hold)
--   a range     add-over (literal one 1 1 1 1 tt tt tt tt tt) (div-count (mul-most a y 1 32 tt tt) k 1 1 32 l m tt tt tt) 33 32 31 32 tt tt tt tt tt
--               The new bounds are written out; each `tt` is a test on closed numbers. A literal wants `unfolding of_bits`.
--   an error    rounding-error (add-rounds x y p q) w size, with w : val x +F val y within A and size : Size A 1022 1023
--   a chain     near-mul (near-add hx hy 2 size tt) hz fair tt, the counts k and b worked out by computing
pub mod Operators
pub mod Sign
pub mod Order
pub mod Opened
pub mod Range
pub mod Nearest
pub mod Representable
pub mod Monotone
pub mod Value
pub mod Error
pub mod Decimal
pub mod Literals
