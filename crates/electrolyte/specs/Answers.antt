-- What the answers of a build, of a step and of a call that gives a whole number say, refused or not. Definitions only.
use Rattle.std.specs.Prelude.{ℕ, List, [], ◌∷◌, Result, Ok, Err}
use Rattle.refusal.specs.declared.Refusal.{Refusal}
use Rattle.refusal.specs.Refusals.{number_of}
use Rattle.electrolyte.specs.declared.ElectrolyteState.{ElectrolyteState}

-- a refusal's number, 0 for none, and the state: the new one; of a refused step the one given, of a refused build all zeros
pub record ElectrolyteAnswer : Type 0 where
  pub refusal : ℕ
  pub state : ElectrolyteState

-- the new state, or the row that refuses it beside the state e
abbrev pub electrolyte_answered : ElectrolyteState → Result ElectrolyteState Refusal → ElectrolyteAnswer
electrolyte_answered e (Ok s) = record { refusal = 0; state = s }
electrolyte_answered e (Err r) = record { refusal = number_of r; state = e }

-- what a call that gives a whole number says: the number of the refusal and no value, or 0 and the value
pub record Counted : Type 0 where
  pub refusal : ℕ
  pub values : List ℕ

-- each case of its answer
abbrev pub counted : Result ℕ Refusal → Counted
counted (Ok n) = record { refusal = 0; values = n ∷ [] }
counted (Err r) = record { refusal = number_of r; values = [] }
