-- The binary64 nearest to digits / 10 ^ places, and where it is read. Definitions only.
use Rattle.std.specs.Prelude.{ℕ, zero, suc, ◌^◌, Bool, true, false, ◌&&◌, nat_le, Float, Option, Some, None}
use Rattle.binary64.specs.Operators.{◌⊗◌}
use Rattle.binary64.specs.Decimal.{decimal}
use Rattle.binary64.specs.Literals.{«1·0», «10·0»}

-- 10 ^ k, multiplied up from 1
unfoldable pub tens : ℕ → Float
tens zero = «1·0»
tens (suc k) = tens k ⊗ «10·0»

abbrev pub read_where : Bool → Float → Option Float
read_where true x = Some x
read_where false x = None

-- the decimal, rounded once, of at most 2 ^ 53 and with at most 22 places
unfoldable pub nearest_to : ℕ → ℕ → Option Float
nearest_to digits places = read_where (nat_le digits (2 ^ 53) && nat_le places 22) (decimal digits places)
