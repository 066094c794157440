-- The phases of a charger: the current that each applies, when it ends, what is asked of its number; and a list of phases, repeated. Definitions only.
use Rattle.std.specs.Prelude.{ℕ, zero, suc, Bool, true, not, ◌&&◌, ◌||◌, List, [], ◌∷◌, ◌++◌, leb, get_or, Float}
use Rattle.std.specs.Float.{nan}
use Rattle.std.specs.Float.Ieee.{lt, le, neg}
use Rattle.binary64.specs.Literals.{«0·0», «1e6», «1e9»}
use Rattle.refusal.specs.Ranges.{in_range}
use Rattle.iterate.specs.Iterate.{all_below}
use Rattle.cycle_run.specs.declared.phases.Phase.{Phase}
use Rattle.cycle_run.specs.declared.phases.Phase.TheVariants.{Charge, Rest, Discharge}

-- ---- one phase
-- a charge applies its current negated, a rest +0
abbrev pub current_of : Phase → Float
current_of (Charge i) = neg i
current_of (Rest t) = «0·0»
current_of (Discharge i) = i

-- whether a step was the phase's last, by the step's cutoff and the phase's clock after it: a charge and a discharge end with the cutoff, a rest, whatever its cutoff, when the clock has
-- reached its time
abbrev pub phase_over : Phase → Bool → Float → Bool
phase_over (Charge i) cutoff clock = cutoff
phase_over (Rest t) cutoff clock = not (lt clock t)
phase_over (Discharge i) cutoff clock = cutoff

-- above 0, at most 1e6 A
abbrev pub current_fits : Float → Bool
current_fits i = lt «0·0» i && le i «1e6»

-- whether the phase's current, where it has one, is fit
abbrev pub phase_load_fits : Phase → Bool
phase_load_fits (Charge i) = current_fits i
phase_load_fits (Rest t) = true
phase_load_fits (Discharge i) = current_fits i

-- whether the phase's time, where it has one, is 0 to 1e9 s
abbrev pub phase_time_fits : Phase → Bool
phase_time_fits (Charge i) = true
phase_time_fits (Rest t) = in_range t «0·0» «1e9»
phase_time_fits (Discharge i) = true

-- ---- the eight places of a list of phases, of which the first `count` are meant
-- the phase at a place (no place from 8 on is asked for)
abbrev pub phase_at : List Phase → ℕ → Phase
phase_at l k = get_or l k (Charge nan)

-- places from `count` on are not looked at
unfoldable pub loads_fit : List Phase → ℕ → Bool
loads_fit l count = all_below 8 (λ k. leb count k || phase_load_fits (phase_at l k))

unfoldable pub times_fit : List Phase → ℕ → Bool
times_fit l count = all_below 8 (λ k. leb count k || phase_time_fits (phase_at l k))

-- ---- written out
-- n phases from place k on
unfoldable pub phases_from : List Phase → ℕ → ℕ → List Phase
phases_from l k zero = []
phases_from l k (suc n) = phase_at l k ∷ phases_from l (suc k) n

unfoldable pub repeated : ℕ → List Phase → List Phase
repeated zero l = []
repeated (suc n) l = l ++ repeated n l

-- the first `count`, `repeats` times
abbrev pub written_out : List Phase → ℕ → ℕ → List Phase
written_out l count repeats = repeated repeats (phases_from l 0 count)
