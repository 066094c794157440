-- The endings of a run in docs/REFERENCE.md's words: voltage, time, full, refused, done, spent, with their numbers, and a refusal's number. Definitions, and one law. Assumes nothing.
use Rattle.std.specs.Prelude.{ℕ, ◌≡◌, refl, cond, eqb}
use Rattle.refusal.specs.Refusals.{number_of}
use Rattle.runs.specs.declared.Ending.{Ending}
use Rattle.runs.specs.declared.Ending.TheVariants.{Voltage, Time, Full, Refused, Done, Spent}

-- not ended
abbrev pub going_on_of : ℕ
going_on_of = 0

abbrev pub by_voltage : ℕ
by_voltage = 1

abbrev pub by_time : ℕ
by_time = 2

abbrev pub by_full : ℕ
by_full = 3

abbrev pub by_refusal : ℕ
by_refusal = 4

abbrev pub by_done : ℕ
by_done = 5

abbrev pub by_spent : ℕ
by_spent = 6

-- which ending, and the number of the refusal, 0 for none
pub record Ended : Type 0 where
  pub ending : ℕ
  pub refusal : ℕ

-- each case of the enum
abbrev pub ended_by : Ending → Ended
ended_by Voltage = record { ending = by_voltage; refusal = 0 }
ended_by Time = record { ending = by_time; refusal = 0 }
ended_by Full = record { ending = by_full; refusal = 0 }
ended_by (Refused e) = record { ending = by_refusal; refusal = number_of e }
ended_by Done = record { ending = by_done; refusal = 0 }
ended_by Spent = record { ending = by_spent; refusal = 0 }

-- what has ended a run so far, and what that makes it: a run that nothing ended is full
unfoldable pub ending_of : ℕ → ℕ → Ended
ending_of over k =
    cond (eqb over going_on_of) (record { ending = by_full; refusal = 0 })
    (cond (eqb over by_voltage) (record { ending = by_voltage; refusal = 0 })
    (cond (eqb over by_time) (record { ending = by_time; refusal = 0 })
    (cond (eqb over by_done) (record { ending = by_done; refusal = 0 })
    (cond (eqb over by_spent) (record { ending = by_spent; refusal = 0 }) (record { ending = by_refusal; refusal = k })))))

-- ---- the same two numbers of an ending, which is full while nothing has ended the run
abbrev pub over_number : Ending → ℕ
over_number Voltage = by_voltage
over_number Time = by_time
over_number Full = going_on_of
over_number (Refused e) = by_refusal
over_number Done = by_done
over_number Spent = by_spent

abbrev pub refusal_number : Ending → ℕ
refusal_number Voltage = 0
refusal_number Time = 0
refusal_number Full = 0
refusal_number (Refused e) = number_of e
refusal_number Done = 0
refusal_number Spent = 0

-- so a run's ending is that of its two numbers
pub ending_is : (e : Ending) → ended_by e ≡ ending_of (over_number e) (refusal_number e)
unfolding ending_of
ending_is Voltage = refl
ending_is Time = refl
ending_is Full = refl
ending_is (Refused e) = refl
ending_is Done = refl
ending_is Spent = refl
