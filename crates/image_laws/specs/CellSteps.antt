-- The answer of an accepted step of a particle or a single-particle cell is read back as what `stepped` gives. Assumes nothing.
use Rattle.std.specs.Prelude.{ℕ, ◌≤◌, ◌+◌, ◌≡◌, List, T, length, Float}
use Rattle.std.proofs.Math.Path.{refl}
use Rattle.std.proofs.Common.{ap, ◌∙◌, arith, lit≤, eq-eqb}
use Rattle.std.specs.Float.{binary64}
use Rattle.std.specs.Float.Ieee.{fits}
use Rattle.std.specs.Float.Ieee.Fits.{add-fits, sub-fits, div-fits}
use Rattle.particle.specs.Particle.{surface_theta, average_theta}
use Rattle.particle.specs.Checks.{particle_refusal}
use Rattle.particle.specs.Answers.{ParticleAnswer}
use Rattle.particle.specs.Calls as P
use Rattle.solver.specs.declared.SpmSolver.{SpmSolver}
use Rattle.solver.specs.Answers.{SpmStepAnswer}
use Rattle.solver.specs.Cell.{cell_refusal}
use Rattle.solver.specs.Step as S
use Rattle.solver_laws.specs.Electrodes.{count_most}
use Rattle.solver_laws.specs.Closure.{Leads, leads, report}
use Rattle.codec.specs.Words.{word_at}
use Rattle.image_rows.specs.Written.{written}
use Rattle.sheet_images.specs.Images.{particle_at}
use Rattle.cell_images.specs.Images.{cell_at, put_cell, state_numbers, put_report}
use Rattle.cell_calls.specs.Steps.{particle_return, particle_after, cell_return, cell_after}
use Rattle.image_laws.specs.Accepted.{inputs_pass}
use Rattle.image_laws.specs.Encodable.{EncodableRow, []ᵉ, ◌∷ᵉ◌}
use Rattle.image_laws.specs.Layout.{Holds, holds, holds_alone}
use Rattle.image_laws.specs.CellImages.{EncodableParticle, EncodableCell, writes_cell, particle_in, particle_layout, cell_layout, particle_words}
use Rattle.image_laws.specs.Reports.{cell_report_at, writes_cell_report, report_row_read_back, sub_steps_word_read_back}
use Rattle.image_laws.specs.CellEncodable.{particle_at-encodable, cell_at-encodable, step_encodable, particle_step_encodable}
use Rattle.image_layout.specs.Layout.{cell_sub_steps, particle_bytes, cell_step_bytes, cell_report}

-- ---- a particle
module _ (s : List ℕ) (j dt t : Float) (a : List ℕ) (h : particle_return s j dt t ≡ 0) where
  particle_passes : particle_refusal (particle_at s 0) ≡ 0
  unfolding particle_return P.stepped
  particle_passes =
      P.step_particle (particle_at s 0) j dt t (inputs_pass (λ (x : ParticleAnswer). x.refusal) (P.step_refusal (particle_at s 0) j dt t) _ _ refl h)

  stepped_particle : EncodableParticle (P.stepped (particle_at s 0) j dt t).particle
  stepped_particle = particle_step_encodable (particle_at s 0) j dt t (particle_at-encodable s 0 particle_passes)

  pub particle_answer_lem : particle_bytes ≤ length a → Holds particle_words particle_in a (particle_after s j dt t a) (P.stepped (particle_at s 0) j dt t).particle
  unfolding particle_after written
  particle_answer_lem l = rw (eq-eqb (particle_return s j dt t) 0 h) (holds_alone particle_layout a (P.stepped (particle_at s 0) j dt t).particle stepped_particle l)

-- ---- a cell
-- what an accepted step tells: the cell passes the checks, the sub-steps are few, the numbers of the report are binary64's
record Stepped (c : SpmSolver) (i : Float) (r : SpmStepAnswer) : Type 0 where
  passes : cell_refusal c ≡ 0
  few : r.sub_steps ≤ 4096
  report : T (fits binary64 i) → EncodableRow (state_numbers r.state)

voltage_fits : (c : SpmSolver) (i dt t : Float) → T (fits binary64 (report c i dt t).voltage)
unfolding S.reported S.voltage_of
voltage_fits c i dt t = sub-fits binary64 _ _

report_encodable : (c : SpmSolver) (i dt t : Float) → T (fits binary64 i) → EncodableRow (state_numbers (report c i dt t))
unfolding S.reported S.advanced surface_theta average_theta
report_encodable c i dt t f =
    voltage_fits c i dt t ∷ᵉ f ∷ᵉ div-fits binary64 _ _ ∷ᵉ div-fits binary64 _ _ ∷ᵉ div-fits binary64 _ _ ∷ᵉ div-fits binary64 _ _ ∷ᵉ add-fits binary64 _ _ ∷ᵉ []ᵉ

step_tells : (c : SpmSolver) (i dt t : Float) → (S.stepped c i dt t).refusal ≡ 0 → Stepped c i (S.stepped c i dt t)
step_tells c i dt t = go (S.stepped c i dt t) (leads c i dt t)
  where
    go : (r : SpmStepAnswer) → Leads c i dt t r → r.refusal ≡ 0 → Stepped c i r
    go r (Leads.refused k) z = absurd (omega (arith, z))
    go r (Leads.moved h g f) z = record { passes = S.input_cell c i dt t h; few = count_most _ g; report = report_encodable c i dt t }

module _ (s : List ℕ) (i dt t : Float) (a : List ℕ) (h : cell_return s i dt t ≡ 0) (l : length a ≡ cell_step_bytes) where
  abbrev after : SpmStepAnswer
  after = S.stepped (cell_at s) i dt t

  abbrev new : List ℕ
  new = put_cell a after.solver

  tells : Stepped (cell_at s) i after
  unfolding cell_return
  tells = step_tells (cell_at s) i dt t h

  stepped_cell : EncodableCell after.solver
  stepped_cell = step_encodable (cell_at s) i dt t (cell_at-encodable s tells.passes)

  answer_is : cell_after s i dt t a ≡ put_report new after.state after.sub_steps
  unfolding cell_after written
  answer_is = rw (eq-eqb (cell_return s i dt t) 0 h)

  room : cell_step_bytes ≤ length new
  room = rw ((writes_cell a after.solver stepped_cell).size ∙ l) (lit≤ tt)

  pub cell_answer : Holds cell_report cell_at a (cell_after s i dt t a) (S.stepped (cell_at s) i dt t).solver
  cell_answer =
      rw answer_is
      (holds cell_layout a after.solver stepped_cell (rw l (lit≤ tt)) (put_report new after.state after.sub_steps) (cell_sub_steps + 1) (writes_cell_report new after.state after.sub_steps))

  pub sub_steps_answer : word_at (cell_after s i dt t a) cell_sub_steps ≡ (S.stepped (cell_at s) i dt t).sub_steps
  sub_steps_answer =
      let m = tells.few in
      ap (λ (b : List ℕ). word_at b cell_sub_steps) answer_is ∙ sub_steps_word_read_back new after.state after.sub_steps room (omega (arith, m))

  pub report_answer : T (fits binary64 i) → cell_report_at (cell_after s i dt t a) ≡ (S.stepped (cell_at s) i dt t).state
  report_answer f = ap cell_report_at answer_is ∙ report_row_read_back new after.state after.sub_steps room (tells.report f)
