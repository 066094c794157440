-- What a call that nothing refuses has met. Assumes nothing.
use Rattle.std.specs.Prelude.{◌≡◌, ℕ, zero, suc, ◌+◌, ◌≤◌, ◌&&◌, cond, T, [], ◌∷◌, ◌==◌, get_or, refl, Float, Ok}
use Rattle.std.proofs.Common.{ap, arith}
use Rattle.std.proofs.Math.Dec.{eqb-suc-zero}
use Rattle.std.specs.Float.Ieee.Fits.{and_l, and_r}
use Rattle.refusal.specs.Numbers.{neither_refused, passed, grid, sheet}
use Rattle.refusal.specs.Ranges.{count_in_range}
use Rattle.refusal.specs.RangeLaws.{count_between}
use Rattle.electrolyte.specs.declared.ElectrolyteState.{ElectrolyteState}
use Rattle.electrolyte_parameters.specs.Params.{params_fit}
use Rattle.electrolyte_profile.specs.Places.{profile_fits}
use Rattle.electrolyte.specs.State.{total, counts_fit, regions_fit}
use Rattle.electrolyte.specs.Answers.{Counted, counted}
use Rattle.electrolyte.specs.Calls.{build_refusal, state_refusal, n_total_of, step_refusal}

-- three counts of at most 32 are at most 96 together
at_most : (a b c : ℕ) → T (count_in_range a 1 32 && count_in_range b 1 32 && count_in_range c 1 32) → a + b + c ≤ 96
at_most a b c h =
    let g = and_l (count_in_range a 1 32 && count_in_range b 1 32) (count_in_range c 1 32) h in
    let x = count_between a 1 32 (and_l (count_in_range a 1 32) (count_in_range b 1 32) g) in
    let y = count_between b 1 32 (and_r (count_in_range a 1 32) (count_in_range b 1 32) g) in
    let z = count_between c 1 32 (and_r (count_in_range a 1 32 && count_in_range b 1 32) (count_in_range c 1 32) h) in
    omega arith

module _ (e : ElectrolyteState) where
  -- a build
  pub build_total : build_refusal e ≡ 0 → total e ≤ 96
  unfolding build_refusal
  build_total h = at_most e.n_neg e.n_sep e.n_pos (passed (counts_fit e) grid (omega arith) (neither_refused _ _ h).0)

  pub build_params : build_refusal e ≡ 0 → T (params_fit e.params)
  unfolding build_refusal
  build_params h = and_l (params_fit e.params) (regions_fit e) (passed (params_fit e.params && regions_fit e) sheet (omega arith) (neither_refused _ _ h).1)

  -- a state handed in
  pub state_build : state_refusal e ≡ 0 → build_refusal e ≡ 0
  unfolding state_refusal
  state_build h = (neither_refused _ _ h).0

  pub state_profile : state_refusal e ≡ 0 → T (profile_fits e.c_e (total e))
  unfolding state_refusal
  state_profile h = passed (profile_fits e.c_e (total e)) sheet (omega arith) (neither_refused _ _ h).1

  pub state_total : state_refusal e ≡ 0 → total e ≤ 96
  state_total h = build_total (state_build h)

  -- a step
  pub step_state : (j_neg j_pos dt t : Float) → step_refusal e j_neg j_pos dt t ≡ 0 → state_refusal e ≡ 0
  unfolding step_refusal
  step_state j_neg j_pos dt t h = (neither_refused _ _ h).0

  pub step_total : (j_neg j_pos dt t : Float) → step_refusal e j_neg j_pos dt t ≡ 0 → total e ≤ 96
  step_total j_neg j_pos dt t h = state_total (step_state j_neg j_pos dt t h)

  -- a count that is answered
  pub counted_total : (n : ℕ) → counted (Ok n) ≡ n_total_of e → (state_refusal e ≡ 0) × (n ≡ total e)
  unfolding n_total_of
  counted_total n h = by_refusal (state_refusal e) h
    where
      by_refusal : (r : ℕ) → counted (Ok n) ≡ cond (r == 0) (record { refusal = 0; values = total e ∷ [] }) (record { refusal = r; values = [] }) → (r ≡ 0) × (n ≡ total e)
      by_refusal zero k = (refl, ap (λ (c : Counted). get_or c.values 0 0) k)
      by_refusal (suc r) k = absurd (omega (arith, rw eqb-suc-zero at (ap (λ (c : Counted). c.refusal) k)))
