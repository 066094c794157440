-- Lists of calls on a state of any kind: a call is refused and changes nothing, or is accepted and makes its sub-steps. The float profile after the list, the exact scheme beside
-- it, and K, the number of sub-steps. A particle's `step` and each electrode of the solver's are instances. Definitions only.
use Rattle.std.specs.Prelude.{ℕ, ◌+◌, ◌≡◌, Bool, cond, List, [], ◌∷◌, T, length, Float}
use Rattle.fraction.specs.Fraction.{Fraction}
use Rattle.diffusion.specs.Exact.{numbers}
use Rattle.diffusion.specs.Premises.{StepConditions, ParametersInRange}
use Rattle.diffusion.specs.Run.{Grid, Move, sub_step_params, run, exact_run, Each}

pub record Stepper (S Q : Type 0) : Type 0 where
  -- the state that a call leads to, and whether it is accepted
  pub step : S → Q → S
  pub ok : S → Q → Bool
  -- the sub-steps that an accepted call makes
  pub moves : Q → List Move
  -- the profile and its grid
  pub profile : S → List Float
  pub grid : Grid

module _ {S Q : Type 0} (a : Stepper S Q) where
  -- the state after a list of calls
  unfoldable pub after : S → List Q → S
  after s [] = s
  after s (q ∷ qs) = after (a.step s q) qs

  -- the accepted calls, in order
  unfoldable pub accepted : S → List Q → List Q
  accepted s [] = []
  accepted s (q ∷ qs) = cond (a.ok s q) (q ∷ accepted (a.step s q) qs) (accepted (a.step s q) qs)

  -- K: the sub-steps of the accepted calls
  unfoldable pub total : S → List Q → ℕ
  total s [] = 0
  total s (q ∷ qs) = cond (a.ok s q) (length (a.moves q)) 0 + total (a.step s q) qs

  -- the exact scheme, given each call and whether it was refused; a refused one changes nothing
  unfoldable pub exact_after : S → List Q → List Fraction → List Fraction
  exact_after s [] x = x
  exact_after s (q ∷ qs) x = exact_after (a.step s q) qs (cond (a.ok s q) (exact_run a.grid (a.moves q) x) x)

  -- the demand's two conditions hold at every sub-step of the accepted calls
  abbrev pub ConditionsHold : S → List Q → Type 0
  ConditionsHold s qs = Each (λ q. Each (λ m. StepConditions (numbers (sub_step_params a.grid m))) (a.moves q)) (accepted s qs)

  -- What is to be shown of a stepper, for the states in `Inv` (of one sheet and one grid, say): `step` stays in Inv, it makes an accepted call's sub-steps and keeps the profile else,
  -- and the numbers of an accepted call are in their ranges.
  pub record Lawful (Inv : S → Type 0) : Type 0 where
    pub stays : (s : S) (q : Q) → Inv s → Inv (a.step s q)
    pub law : (s : S) (q : Q) → Inv s → a.profile (a.step s q) ≡ cond (a.ok s q) (run a.grid (a.moves q) (a.profile s)) (a.profile s)
    pub ranges : (s : S) (q : Q) → Inv s → T (a.ok s q) → Each (λ m. ParametersInRange (sub_step_params a.grid m)) (a.moves q)
