-- The places of an array of which the first n are used. Definitions only.
use Rattle.std.specs.Prelude.{ℕ, Bool, cond, List, ltb, get_or, replicate, Float}
use Rattle.std.specs.Float.{nan}
use Rattle.refusal.specs.Ranges.{finite, plus_zero}
use Rattle.iterate.specs.Iterate.{first_by, all_below}
use Rattle.binary64.specs.Literals.{«0·0»}

-- place i; past the end a NaN
abbrev pub at : List Float → ℕ → Float
at c i = get_or c i nan

-- each of the first n places passes a test
abbrev pub all_pass : (Float → Bool) → List Float → ℕ → Bool
all_pass test c n = all_below n (λ i. test (at c i))

-- each of them is a number
abbrev pub all_finite : List Float → ℕ → Bool
all_finite c n = all_pass finite c n

-- a used place passes the test, an unused one is +0 by its bits
abbrev pub place_fits : (Float → Bool) → Float → Bool → Bool
place_fits test x used = cond used (test x) (plus_zero x)

-- so do the first k places, of which the first n are used
unfoldable pub places_fit : (Float → Bool) → List Float → ℕ → ℕ → Bool
places_fit test c n k = all_below k (λ i. place_fits test (at c i) (ltb i n))

-- of so many places the first n are x, the others +0
abbrev pub filled : ℕ → Float → ℕ → List Float
filled size x n = first_by n (λ i. x) (replicate size «0·0»)
