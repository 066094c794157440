-- What a step on the parts of a pack's cell leaves is that cell's step. Assumes nothing.
use Rattle.std.specs.Prelude.{ℕ, ◌≡◌, refl, List, Float}
use Rattle.std.proofs.Math.Path.{sym, ap}
use Rattle.std.proofs.Common.{◌∙◌}
use Rattle.binary64.specs.Operators.{◌⊕◌}
use Rattle.electrode.specs.declared.ElectrodeParams.{ElectrodeParams}
use Rattle.kinetics.specs.declared.SpmConfig.{SpmConfig}
use Rattle.solver_step.specs.Answers.{SpmReported}
use Rattle.solver_step.specs.declared.report.SpmState.{SpmState}
use Rattle.solver.specs.Answers.{SpmStepAnswer}
use Rattle.solver.specs.Parts.{Agrees, answer_kept, answer_made}
use Rattle.solver.specs.Step.{stepped, refused_step}
use Rattle.pack.specs.declared.PackCell.{PackCell}
use Rattle.pack.specs.Answers.{PackStepped}
use Rattle.pack.specs.Pack.{solver_of, pack_cell_of, reported_of, stepped_by_of, cell_stepped}

abbrev reported_by : ℕ → SpmState → ℕ → SpmReported
reported_by k r n = record { refusal = k; state = r; sub_steps = n }

-- a cell and an answer by their parts
abbrev pub stepped_with : List Float → List Float → Float → SpmReported → PackStepped
stepped_with neg pos time r = record { cell = record { c_neg = neg; c_pos = pos; time_s = time }; reported = r }

abbrev pub stepped_to : PackCell → SpmReported → PackStepped
stepped_to x r = record { cell = x; reported = r }

module _ (x : PackCell) (g : SpmConfig) (a c : ElectrodeParams) (i dt t : Float) (r : SpmReported) (neg pos : List Float)
    (h : Agrees (stepped (solver_of g a c x) i dt t) r neg pos) where
  pub stepped_made : r.refusal ≡ 0 → stepped_with neg pos (x.time_s ⊕ dt) r ≡ cell_stepped x g a c i dt t
  unfolding cell_stepped
  stepped_made z =
      ap (λ (k : ℕ). stepped_with neg pos (x.time_s ⊕ dt) (reported_by k r.state r.sub_steps)) z
      ∙ ap stepped_by_of (answer_made (solver_of g a c x) i dt t r neg pos h z)

  pub stepped_kept : (r.refusal ≡ 0 → ⊥) → stepped_to x r ≡ cell_stepped x g a c i dt t
  unfolding cell_stepped
  stepped_kept z =
      let e : refused_step r.refusal (solver_of g a c x) ≡ stepped (solver_of g a c x) i dt t = answer_kept (solver_of g a c x) i dt t r neg pos h z in
      let s : r.state ≡ (refused_step r.refusal (solver_of g a c x)).state = h.1.0 ∙ sym (ap (λ (y : SpmStepAnswer). y.state) e) in
      let n : r.sub_steps ≡ 0 = h.1.1.0 ∙ sym (ap (λ (y : SpmStepAnswer). y.sub_steps) e) in
      ap (λ (y : SpmState). stepped_to x (reported_by r.refusal y r.sub_steps)) s
      ∙ ap (λ (m : ℕ). stepped_to x (reported_by r.refusal (refused_step r.refusal (solver_of g a c x)).state m)) n
      ∙ ap stepped_by_of e

-- refused, a cell is as it was
pub cell_kept : (x : PackCell) (g : SpmConfig) (a c : ElectrodeParams) (i dt t : Float)
    → ((cell_stepped x g a c i dt t).reported.refusal ≡ 0 → ⊥) → (cell_stepped x g a c i dt t).cell ≡ x
unfolding cell_stepped
cell_kept x g a c i dt t z =
    let s = solver_of g a c x in
    sym (ap (λ (y : SpmStepAnswer). pack_cell_of y.solver) (answer_kept s i dt t (reported_of (stepped s i dt t)) _ _ (refl, (refl, (refl, (refl, refl)))) z))
