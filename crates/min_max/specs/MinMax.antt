-- Absolute value, clamp, max and min: no operation here rounds. Definitions only.
use Rattle.std.specs.Prelude.{false, cond, ◌||◌, is_nan, Float}
use Rattle.std.specs.Float.{nan, inf, fin}
use Rattle.std.specs.Float.Ieee.{lt}

abbrev pub abs_of : Float → Float
abs_of nan = nan
abs_of (inf s) = inf false
abs_of (fin s m e) = fin false m e

-- below low, low; then above high, high. -0 and NaN pass.
abbrev pub clamp_of : Float → Float → Float → Float
clamp_of x lo hi = let y = cond (lt x lo) lo x in cond (lt hi y) hi y

-- one NaN gives the other; of two equal numbers, the first
abbrev pub max_of : Float → Float → Float
max_of a b = cond (is_nan a || lt a b) b a

abbrev pub min_of : Float → Float → Float
min_of a b = cond (is_nan a || lt b a) b a
