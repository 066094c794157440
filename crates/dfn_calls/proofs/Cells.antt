-- A step of a Doyle-Fuller-Newman cell on the parts that its image holds, over plain values. Assumes nothing.
use mathlib.Core.Path.{◌≡◌, ◌∙◌}
use mathlib.Core.List.{List}
use Prim.Native.Nat.{ℕ}
use lib.Ieee.{Float}
use Rattle.codec.specs.Words.{float_at, places_at}
use Rattle.dfn_parameters.specs.declared.DfnParams.{DfnParams}
use Rattle.dfn_parameters.specs.declared.DfnConfig.{DfnConfig}
use Rattle.dfn.specs.Answers.{DfnReported, DfnStepAnswer}
use Rattle.dfn.specs.Step.{stepped}
use Rattle.dfn.specs.Parts.{Agrees, StepOf, cell_by, answer_of, answer_kept, answer_made}
use Rattle.parameter_images.specs.Images.{params_at, config_at}
use Rattle.dfn_images.specs.Images.{cell_at, put_cell, put_report}
use Rattle.image_rows.specs.Written.{accepted, refused}
use Rattle.dfn_calls.specs.Steps.{put_stepped, dfn_return, dfn_after}

-- the image of a step's answer
abbrev step_put : List ℕ → DfnStepAnswer → List ℕ
step_put a t = put_report (put_cell a t.cell) t.report

-- the parts of the cell that the image s holds, and what a step of them answers
module _ (s a : List ℕ) (i dt : Float) (p : DfnParams) (g : DfnConfig) (t : Float) (neg pos c_e_of : List Float)
    (ep : p ≡ params_at s) (eg : g ≡ config_at s) (et : t ≡ float_at s 1121)
    (en : neg ≡ places_at 512 s 64) (eo : pos ≡ places_at 512 s 576) (es : c_e_of ≡ places_at 33 s 1088)
    (r : DfnReported) (neg' pos' c_e' : List Float) (h : StepOf p g t neg pos c_e_of i dt r neg' pos' c_e') where
  agrees : Agrees (stepped (cell_at s) i dt) r neg' pos' c_e'
  unfolding cell_at
  agrees = rw (← ep, ← eg, ← et, ← en, ← eo, ← es) (h (float_at s 1122) (float_at s 1123) (float_at s 1124) (float_at s 1125))

  put_made : put_stepped a p g neg' pos' c_e' r.report
      ≡ step_put a (answer_of r.refusal r.report (cell_by (cell_at s) neg' pos' c_e' r.report))
  unfolding cell_at put_cell
  put_made = rw (ep, eg)

  pub step_taken : (last : List ℕ) → r.refusal ≡ 0 → last ≡ put_stepped a p g neg' pos' c_e' r.report
      → (r.refusal ≡ dfn_return s i dt) × (last ≡ dfn_after s i dt a)
  unfolding dfn_return dfn_after
  step_taken last z l = accepted (λ (x : DfnStepAnswer). x.refusal) (step_put a) _ _ a (answer_made (cell_at s) i dt r neg' pos' c_e' agrees z) last z (l ∙ put_made)

  pub step_left : (r.refusal ≡ 0 → ⊥) → (r.refusal ≡ dfn_return s i dt) × (a ≡ dfn_after s i dt a)
  unfolding dfn_return dfn_after
  step_left z = refused (λ (x : DfnStepAnswer). x.refusal) (step_put a) _ _ a (answer_kept (cell_at s) i dt r neg' pos' c_e' agrees z) z
