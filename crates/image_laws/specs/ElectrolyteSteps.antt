-- The answer of an accepted step of an electrolyte is read back as what `stepped` gives. Assumes nothing.
use Rattle.std.specs.Prelude.{ℕ, ◌≤◌, ◌≡◌, List, T, eqb, length, Float}
use Rattle.std.proofs.Math.Path.{refl}
use Rattle.std.proofs.Common.{◌∙◌, arith, eq-eqb}
use Rattle.std.specs.Float.{binary64}
use Rattle.std.specs.Float.Ieee.{fits, neg}
use Rattle.std.specs.Float.Ieee.Bits.{of_bits-fits}
use Rattle.std.specs.Float.Ieee.Fits.{add-fits}
use Rattle.matrix_rows.specs.Loops.{either}
use Rattle.refusal.specs.Numbers.{not_finite_of}
use Rattle.iterate.specs.Iterate.{first_length, first_by}
use Rattle.electrolyte_profile.specs.declared.ElectrolyteStepParams.{ElectrolyteStepParams}
use Rattle.arrays.specs.Places.{all_finite}
use Rattle.electrolyte_profile.specs.Places as EP
use Rattle.electrolyte_profile.specs.Step.{node_from, node_new, profile_new}
use Rattle.electrolyte.specs.declared.ElectrolyteState.{ElectrolyteState}
use Rattle.electrolyte.specs.Answers.{ElectrolyteAnswer}
use Rattle.electrolyte.specs.State.{with_profile, step_params}
use Rattle.electrolyte.specs.Calls as E
use Rattle.electrolyte.specs.Accepted as EA
use Rattle.image_rows.specs.Written.{written}
use Rattle.electrolyte_images.specs.Images.{electrolyte_params_at, electrolyte_at, electrolyte_params_numbers}
use Rattle.dfn_calls.specs.Steps.{electrolyte_return, electrolyte_after}
use Rattle.image_laws.specs.Accepted.{inputs_pass, accepted}
use Rattle.image_laws.specs.Encodable.{EncodableRow, first_encodable, max_fits, places_encodable, places_count}
use Rattle.image_laws.specs.Layout.{Holds, holds_alone}
use Rattle.image_laws.specs.ElectrolyteImages.{electrolyte_words, EncodableElectrolyte, electrolyte_layout}
use Rattle.image_layout.specs.Layout.{electrolyte_bytes, electrolyte_regions, electrolyte_profile}

-- ---- an electrolyte of an image
pub electrolyte_params_at-encodable : (s : List ℕ) → EncodableRow (electrolyte_params_numbers (electrolyte_params_at s))
unfolding electrolyte_params_at first_by
electrolyte_params_at-encodable s = places_encodable 8 s 0

pub electrolyte_at-encodable : (s : List ℕ) → E.state_refusal (electrolyte_at s) ≡ 0 → EncodableElectrolyte (electrolyte_at s)
unfolding electrolyte_at first_by
electrolyte_at-encodable s h =
    let n = EA.state_total (electrolyte_at s) h in
    record {
      c_e_of = electrolyte_params_at-encodable s;
      regions = places_encodable 6 s electrolyte_regions;
      neg = omega (arith, n);
      sep = omega (arith, n);
      pos = omega (arith, n);
      long = places_count 96 s electrolyte_profile;
      places = places_encodable 96 s electrolyte_profile;
    }

electrolyte_node : (v : ElectrolyteStepParams) (c : List Float) (i : ℕ) → T (fits binary64 (node_new v c i))
unfolding node_new node_from
electrolyte_node v c i = max_fits _ EP.floor (add-fits binary64 _ _) (of_bits-fits binary64 _)

electrolyte_profile_lem : (e : ElectrolyteState) (v : ElectrolyteStepParams) → EncodableElectrolyte e → EncodableElectrolyte (with_profile e (profile_new v e.c_e))
unfolding profile_new
electrolyte_profile_lem e v h = record {
  c_e_of = h.c_e_of;
  regions = h.regions;
  neg = h.neg;
  sep = h.sep;
  pos = h.pos;
  long = first_length (node_new v e.c_e) e.c_e v.n ∙ h.long;
  places = first_encodable v.n (node_new v e.c_e) e.c_e (electrolyte_node v e.c_e) h.places;
}

pub electrolyte_step_encodable : (e : ElectrolyteState) (j_neg j_pos dt t : Float) → EncodableElectrolyte e → EncodableElectrolyte (E.stepped e j_neg j_pos dt t).state
unfolding E.stepped E.accepted
electrolyte_step_encodable e j_neg j_pos dt t h =
    let c = profile_new (step_params e j_neg j_pos dt t) e.c_e in
    let P : ElectrolyteAnswer → Type 0 = λ a. EncodableElectrolyte a.state in
    either P (eqb (E.step_refusal e j_neg j_pos dt t) 0) (E.accepted e c) (E.answer (E.step_refusal e j_neg j_pos dt t) e)
    (either P (all_finite c 96) (E.answer 0 (with_profile e c)) (E.answer not_finite_of e) (electrolyte_profile_lem e (step_params e j_neg j_pos dt t) h) h) h

-- ---- a step's answer
module _ (s : List ℕ) (j_neg j_pos dt t : Float) (a : List ℕ) (h : electrolyte_return s j_neg j_pos dt t ≡ 0) where
  abbrev after : ElectrolyteState
  after = (E.stepped (electrolyte_at s) j_neg j_pos dt t).state

  electrolyte_passes : E.state_refusal (electrolyte_at s) ≡ 0
  unfolding electrolyte_return E.stepped
  electrolyte_passes =
      EA.step_state (electrolyte_at s) j_neg j_pos dt t (inputs_pass (λ (x : ElectrolyteAnswer). x.refusal) (E.step_refusal (electrolyte_at s) j_neg j_pos dt t) _ _ refl h)

  stepped_electrolyte : EncodableElectrolyte after
  stepped_electrolyte = electrolyte_step_encodable (electrolyte_at s) j_neg j_pos dt t (electrolyte_at-encodable s electrolyte_passes)

  pub electrolyte_answer : electrolyte_bytes ≤ length a → Holds electrolyte_words electrolyte_at a (electrolyte_after s j_neg j_pos dt t a) (E.stepped (electrolyte_at s) j_neg j_pos dt t).state
  unfolding electrolyte_after written
  electrolyte_answer l = rw (eq-eqb (electrolyte_return s j_neg j_pos dt t) 0 h) (holds_alone electrolyte_layout a after stepped_electrolyte l)
