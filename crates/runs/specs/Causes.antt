-- What has ended a run, for any run whose ending goes by its rows or by the refusal of the step after them. Assumes nothing.
use Rattle.std.specs.Prelude.{ℕ, ◌≡◌}
use Rattle.std.proofs.Common.{sym, ◌∙◌, arith}
use Rattle.runs.specs.Endings.{ending_of, going_on_of, by_refusal}

-- what n rows make of a run, and the number of the step after them
module _ (over_at refusal_at : ℕ → ℕ) where
  -- a run with n rows: they tell what has ended it, or they end nothing and the step after them is refused
  pub data Cause (n over refusal : ℕ) : Type 0 where
    rows : over ≡ over_at n → Cause n over refusal
    step : over ≡ by_refusal → over_at n ≡ going_on_of → refusal ≡ refusal_at n → (refusal ≡ 0 → ⊥) → Cause n over refusal

  -- while it goes on, its rows end nothing
  pub rows_go_on : (n over refusal : ℕ) → over ≡ going_on_of → Cause n over refusal → over_at n ≡ going_on_of
  rows_go_on n over refusal o (Cause.rows e) = sym e ∙ o
  rows_go_on n over refusal o (Cause.step e h k z) = absurd (omega (arith, o, e))

  -- where its rows do not refuse it, one that ends refused has the number of a refusal
  pub cause_number : (n over refusal : ℕ) → ((ending_of (over_at n) refusal).ending ≡ by_refusal → ⊥) → Cause n over refusal
      → (ending_of over refusal).ending ≡ by_refusal → (ending_of over refusal).refusal ≡ 0 → ⊥
  unfolding ending_of
  cause_number n over refusal r (Cause.rows e) f z = r (rw e at f)
  cause_number n over refusal r (Cause.step e h k y) f z = y (rw e at z)
