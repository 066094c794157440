-- What the answer of a call that gives a number says, in the terms of docs/REFERENCE.md: the number of the refusal and no value, or 0 and the value.
-- Definitions, and one law. Assumes nothing.
use Rattle.std.specs.Prelude.{ℕ, ◌≡◌, cond, List, [], ◌∷◌, eqb, Float, Result, Ok, Err}
use Rattle.std.proofs.Common.{ne_eqb}
use Rattle.refusal.specs.Numbers.{first_refusal, refusal_unless, not_finite_of}
use Rattle.refusal.specs.Ranges.{finite}
use Rattle.refusal.specs.declared.Refusal.{Refusal}
use Rattle.refusal.specs.Refusals.{number_of}

pub record Outcome : Type 0 where
  pub refusal : ℕ
  pub values : List Float

-- a value, or the row that refuses it
abbrev pub outcome_of : Result Float Refusal → Outcome
outcome_of (Ok x) = record { refusal = 0; values = x ∷ [] }
outcome_of (Err e) = record { refusal = number_of e; values = [] }

-- the same where a number refuses it
abbrev pub outcome_by : Result Float ℕ → Outcome
outcome_by (Ok x) = record { refusal = 0; values = x ∷ [] }
outcome_by (Err k) = record { refusal = k; values = [] }

-- a call that meets the number n, 0 for none, and whose value is x
unfoldable pub outcome : ℕ → Float → Outcome
outcome n x = cond (eqb n 0) (record { refusal = 0; values = x ∷ [] }) (record { refusal = n; values = [] })

-- the same where 8 is still to be tested: "the returned number would hold a NaN or infinity"
abbrev pub finite_outcome : ℕ → Float → Outcome
finite_outcome n x = outcome (first_refusal n (refusal_unless (finite x) not_finite_of)) x

-- beside a refusal the value does not matter
pub refused_outcome : (k : ℕ) (x y : Float) → (k ≡ 0 → ⊥) → finite_outcome k x ≡ finite_outcome k y
unfolding outcome first_refusal
refused_outcome k x y h = rw (ne_eqb k 0 h, ne_eqb k 0 h)
