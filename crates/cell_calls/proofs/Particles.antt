-- A step of a single-particle cell on the parts that its image holds, over plain values. Assumes nothing.
use mathlib.Core.Path.{◌≡◌, refl, ◌∙◌}
use mathlib.Core.List.{List}
use Prim.Native.Nat.{ℕ}
use lib.Ieee.{Float}
use Rattle.binary64.specs.Operators.{◌⊕◌}
use Rattle.codec.specs.Words.{places_at}
use Rattle.solver_step.specs.declared.SpmParts.{SpmParts}
use Rattle.solver_step.specs.Answers.{SpmReported}
use Rattle.solver.specs.Answers.{SpmStepAnswer}
use Rattle.solver.specs.Step.{stepped}
use Rattle.solver.specs.Parts.{parts_of, Agrees, StepOf, cell_with, step_by, answer_kept, answer_made}
use Rattle.cell_images.specs.Images.{cell_at, put_cell, put_report}
use Rattle.sheet_images.specs.Images.{particle_at}
use Rattle.image_layout.specs.Layout.{cell_anode_profile, cell_cathode_profile}
use Rattle.image_rows.specs.Written.{accepted, refused}
use Rattle.cell_calls.specs.Steps.{put_stepped, cell_return, cell_after}

-- the image of a step's answer
abbrev step_put : List ℕ → SpmStepAnswer → List ℕ
step_put a t = put_report (put_cell a t.solver) t.state t.sub_steps

-- the parts of the cell that the image s holds, and what a step of them answers
module _ (s a : List ℕ) (i dt t : Float) (q : SpmParts) (neg pos : List Float)
    (eq : q ≡ parts_of (cell_at s)) (en : neg ≡ places_at 64 s cell_anode_profile) (eo : pos ≡ places_at 64 s cell_cathode_profile)
    (r : SpmReported) (neg' pos' : List Float) (h : StepOf q neg pos i dt t r neg' pos') where
  agrees : Agrees (stepped (cell_at s) i dt t) r neg' pos'
  unfolding cell_at particle_at
  agrees = rw (eq, en, eo) at h

  put_made : put_stepped a q neg' pos' (q.time_s ⊕ dt) r.state r.sub_steps
      ≡ step_put a (step_by 0 r.state r.sub_steps (cell_with (cell_at s) dt neg' pos'))
  unfolding put_cell
  put_made = rw eq

  pub cell_taken_lem : (last : List ℕ) → r.refusal ≡ 0 → last ≡ put_stepped a q neg' pos' (q.time_s ⊕ dt) r.state r.sub_steps
      → (r.refusal ≡ cell_return s i dt t) × (last ≡ cell_after s i dt t a)
  unfolding cell_return cell_after
  cell_taken_lem last z l =
      rw z (accepted (λ (x : SpmStepAnswer). x.refusal) (step_put a) _ _ a (answer_made (cell_at s) i dt t r neg' pos' agrees z) last refl (l ∙ put_made))

  pub cell_left : (r.refusal ≡ 0 → ⊥) → (r.refusal ≡ cell_return s i dt t) × (a ≡ cell_after s i dt t a)
  unfolding cell_return cell_after
  cell_left z = refused (λ (x : SpmStepAnswer). x.refusal) (step_put a) _ _ a (answer_kept (cell_at s) i dt t r neg' pos' agrees z) z
