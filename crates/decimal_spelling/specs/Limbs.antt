-- Numbers of twenty limbs of 60 bits, the lowest first; limbs 18 and 19 are the whole part. Definitions only.
use Rattle.std.specs.Prelude.{ℕ, zero, suc, ◌+◌, ◌*◌, ◌-◌, ◌/◌, ◌%◌, ◌^◌, Bool, false, cond, List, ltb, eqb, get_or, set, replicate}

abbrev pub limb : ℕ
limb = 0x1000_0000_0000_0000

-- limbs that are worked out one after the other, and what is carried on
pub record Carried : Type 0 where
  pub limbs : List ℕ
  pub carry : ℕ

abbrev pub carried : List ℕ → ℕ → Carried
carried limbs carry = record { limbs = limbs; carry = carry }

-- a limb from a sum, and what is over
abbrev pub onward : Carried → ℕ → ℕ → Carried
onward p k v = carried (set p.limbs k (v % limb)) (v / limb)

-- ten times a number, its first k limbs
unfoldable pub ten_by : ℕ → List ℕ → Carried
ten_by zero a = carried a 0
ten_by (suc k) a = onward (ten_by k a) k (get_or (ten_by k a).limbs k 0 % limb * 10 + (ten_by k a).carry)

-- the sum of two numbers, its first k limbs
unfoldable pub sum_by : ℕ → List ℕ → List ℕ → Carried
sum_by zero a b = carried (replicate 20 0) 0
sum_by (suc k) a b = onward (sum_by k a b) k (get_or a k 0 % limb + get_or b k 0 % limb + (sum_by k a b).carry)

-- whether a number is below another: the highest of the first k limbs in which they differ decides
unfoldable pub below_by_of : ℕ → List ℕ → List ℕ → Bool
below_by_of zero a b = false
below_by_of (suc k) a b = cond (eqb (get_or a k 0) (get_or b k 0)) (below_by_of k a b) (ltb (get_or a k 0) (get_or b k 0))

-- m * 2^at, for m below 2^60: its bits in one limb, and those over in the next
unfoldable pub placed_at : ℕ → ℕ → List ℕ
placed_at m at =
    cond (ltb (at / 60) 19)
    (set (set (replicate 20 0) (at / 60) (m % 2 ^ (60 - at % 60) * 2 ^ (at % 60))) (at / 60 + 1) (m / 2 ^ (60 - at % 60)))
    (replicate 20 0)

-- the whole part, and what is behind it
unfoldable pub whole_part_of : List ℕ → ℕ
whole_part_of a = get_or a 19 0 % 8 * limb + get_or a 18 0 % limb

unfoldable pub behind : List ℕ → List ℕ
behind a = set (set a 18 0) 19 0
