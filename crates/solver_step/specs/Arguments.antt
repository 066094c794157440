-- What a step is refused for by its arguments alone. Definitions only.
use Rattle.std.specs.Prelude.{ℕ, Float}
use Rattle.refusal.specs.Numbers.{first_refusal, refusal_unless, load, interval, temperature}
use Rattle.refusal.specs.Ranges.{load_fits_of, interval_fits, temperature_fits}
use Rattle.binary64.specs.Literals.{«1e6»}

-- 3 to 5: a current of at most 1e6 A, the interval, the temperature
abbrev pub argument_refusal : Float → Float → Float → ℕ
argument_refusal i dt t =
    first_refusal (refusal_unless (load_fits_of i «1e6») load)
    (first_refusal (refusal_unless (interval_fits dt) interval) (refusal_unless (temperature_fits t) temperature))
