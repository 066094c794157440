-- What the calls hand out: an accepted build and an accepted step a state that passes the checks again, a refused step the state that it was given.
-- Assumes nothing.
use Rattle.std.specs.Prelude.{◌≡◌, ℕ, zero, suc, ◌<◌, Bool, true, false, cond, T, List, ◌==◌, refl, Float}
use Rattle.std.proofs.Common.{arith}
use Rattle.std.proofs.Math.Dec.{eqb-suc-zero}
use Rattle.std.specs.Float.Ieee.{le, of_bits}
use Rattle.std.specs.Float.Ieee.Fits.{and_i}
use Rattle.binary64.specs.Order.{between_finite}
use Rattle.binary64.proofs.RangeTests.{tested_within, within_ge}
use Rattle.binary64.specs.Literals.{«100000·0»}
use Rattle.elementary.specs.Exp.{one}
use Rattle.refusal.specs.Numbers.{first_refusal, refusal_unless, sheet, not_finite_of}
use Rattle.refusal.specs.Ranges.{finite}
use Rattle.refusal.specs.RangeLaws.{Between, row_at}
use Rattle.electrolyte_parameters.specs.declared.ElectrolyteParams.{ElectrolyteParams}
use Rattle.electrolyte_parameters.specs.Params.{param_rows, params_fit}
use Rattle.arrays.specs.Places.{all_finite, filled}
use Rattle.electrolyte_profile.specs.Places.{floor, above_floor, profile_fits}
use Rattle.electrolyte_profile.specs.Step.{profile_new}
use Rattle.electrolyte_profile.specs.Again.{uniform_fits}
use Rattle.electrolyte_profile.proofs.Again.{profile_again}
use Rattle.electrolyte.specs.declared.ElectrolyteState.{ElectrolyteState}
use Rattle.electrolyte.specs.Answers.{ElectrolyteAnswer}
use Rattle.electrolyte.specs.State.{total, no_state, with_profile, step_params}
use Rattle.electrolyte.specs.Calls.{build_refusal, state_refusal, step_refusal, answer, built, accepted, stepped}
use Rattle.electrolyte.specs.Accepted.{build_total, build_params, state_build, state_profile, state_total, step_state}

-- 1e5
abbrev most : Float
most = «100000·0»

-- c_e_init, 1 to 1e5, is finite and above the floor
init_in_range : (x : Float) → Between one x most → T (above_floor x)
unfolding of_bits
init_in_range x b =
    and_i (finite x) (le floor x) (between_finite one x most tt tt b.above b.below) (within_ge (tested_within one x most tt tt b.above b.below) floor tt tt tt)

init_fits : (p : ElectrolyteParams) → T (params_fit p) → T (above_floor p.c_e_init)
init_fits p h = init_in_range p.c_e_init (row_at true (param_rows p) h 4)

-- ---- what a build hands out
still_none : (e : ElectrolyteState) (c : List Float) → build_refusal e ≡ 0 → T (profile_fits c (total e)) → state_refusal (with_profile e c) ≡ 0
unfolding state_refusal build_refusal first_refusal refusal_unless
still_none e c b h = rw b (by_test (profile_fits c (total e)) h)
  where
    by_test : (ok : Bool) → T ok → refusal_unless ok sheet ≡ 0
    by_test true h = refl
    by_test false h = absurd h

filled_by : (e : ElectrolyteState) (c : List Float) (r : ℕ) → (r ≡ 0 → state_refusal (with_profile e c) ≡ 0)
    → (cond (r == 0) (answer 0 (with_profile e c)) (answer r no_state)).refusal ≡ 0 → state_refusal (cond (r == 0) (answer 0 (with_profile e c)) (answer r no_state)).state ≡ 0
filled_by e c zero f h = f refl
filled_by e c (suc r) f h = absurd (omega (arith, rw eqb-suc-zero at h))

-- an accepted build hands out a state that passes the checks
pub build_again : (e : ElectrolyteState) → (built e).refusal ≡ 0 → state_refusal (built e).state ≡ 0
unfolding built
build_again e h =
    filled_by e (filled 96 e.params.c_e_init (total e)) (build_refusal e)
    (λ none. let i = init_fits e.params (build_params e none) in
    still_none e (filled 96 e.params.c_e_init (total e)) none (uniform_fits e.params.c_e_init (total e) (build_total e none) i)) h

-- ---- what a step hands out
-- the answer of a step that meets r before it is made, and whose profile is c
abbrev chosen : ElectrolyteState → ℕ → Bool → List Float → ElectrolyteAnswer
chosen e r ok c = cond (r == 0) (cond ok (answer 0 (with_profile e c)) (answer not_finite_of e)) (answer r e)

again_by : (e : ElectrolyteState) (c : List Float) (r : ℕ) (ok : Bool) → (r ≡ 0 → T ok → state_refusal (with_profile e c) ≡ 0) → (chosen e r ok c).refusal ≡ 0 → state_refusal (chosen e r ok c).state ≡ 0
again_by e c zero true f h = f refl tt
again_by e c zero false f h = absurd (omega (arith, h))
again_by e c (suc r) ok f h = absurd (omega (arith, rw eqb-suc-zero at h))

kept_by : (e : ElectrolyteState) (c : List Float) (r : ℕ) (ok : Bool) → 0 < (chosen e r ok c).refusal → (chosen e r ok c).state ≡ e
kept_by e c zero true h = absurd (omega (arith, h))
kept_by e c zero false h = refl
kept_by e c (suc r) ok h = rw eqb-suc-zero

module _ (e : ElectrolyteState) (j_neg j_pos dt t : Float) where
  abbrev next : List Float
  next = profile_new (step_params e j_neg j_pos dt t) e.c_e

  next_fits : state_refusal e ≡ 0 → T (all_finite next 96) → T (profile_fits next (total e))
  unfolding step_params
  next_fits h k = profile_again (step_params e j_neg j_pos dt t) e.c_e (state_total e h) (state_profile e h) k

  -- an accepted step hands out a state that passes the checks
  pub step_again : (stepped e j_neg j_pos dt t).refusal ≡ 0 → state_refusal (stepped e j_neg j_pos dt t).state ≡ 0
  unfolding stepped accepted
  step_again h =
      again_by e next (step_refusal e j_neg j_pos dt t) (all_finite next 96)
      (λ none fine. let s = step_state e j_neg j_pos dt t none in still_none e next (state_build e s) (next_fits s fine)) h

  -- a refused one the state that it was given
  pub step_kept : 0 < (stepped e j_neg j_pos dt t).refusal → (stepped e j_neg j_pos dt t).state ≡ e
  unfolding stepped accepted
  step_kept h = kept_by e next (step_refusal e j_neg j_pos dt t) (all_finite next 96) h
