-- The last k terms of the series of E, from a start below and from one above what the terms before them give. Definitions only.
use Rattle.std.specs.Prelude.{ℕ, ◌≡◌, Bool, true, ◌&&◌, Float}
use Rattle.std.specs.Float.Ieee.{le, eq, neg}
use Rattle.elementary.specs.Exp.{one, series}
use Rattle.elementary.specs.declared.Bracket.{Bracket}
use Rattle.binary64.specs.Literals.{«0·125», «0·75», «1·25»}

-- 3/4
abbrev pub start_low : Float
start_low = «0·75»

-- 5/4
abbrev pub start_high : Float
start_high = «1·25»

abbrev pub last_terms : ℕ → Float → Bracket
last_terms k y = record { low = series k y start_low; high = series k y start_high }

-- where both come to one number, it is the whole series
abbrev pub MeetAtSeries : Bracket → Float → Type 0
MeetAtSeries b y = eq b.low b.high ≡ true → b.low ≡ series 18 y one

-- 1/8
abbrev pub eighth : Float
eighth = «0·125»

-- at most 1/8 in size
abbrev pub within_eighth : Float → Bool
within_eighth y = le (neg eighth) y && le y eighth
