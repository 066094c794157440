-- What the particles of one electrode answer, in the terms of docs/REFERENCE.md: the values, and the number that they meet. Definitions only.
use Rattle.std.specs.Prelude.{ℕ, List, Float, Result, Ok, Err}
use Rattle.refusal.specs.Refusals.{number_of}
use Rattle.dfn_solid.specs.declared.SolidFault.{SolidFault}

-- the particles after a step and the mean of their surface stoichiometries; 0, or 8 where one of these numbers is not finite
pub record SolidUpdate : Type 0 where
  pub refusal : ℕ
  pub c_s : List Float
  pub theta : Float

-- the number that a step of the particles meets, and the mean, which stands beside a refusal too
abbrev pub solid_number : Result Float SolidFault → ℕ
solid_number (Ok theta) = 0
solid_number (Err e) = number_of e.refusal

abbrev pub solid_mean : Result Float SolidFault → Float
solid_mean (Ok theta) = theta
solid_mean (Err e) = e.theta

-- a step's result beside the particles that it has put
abbrev pub solid_answered : List Float → Result Float SolidFault → SolidUpdate
solid_answered c r = record { refusal = solid_number r; c_s = c; theta = solid_mean r }
