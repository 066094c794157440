-- An answer keeps its length: that of an accepted call, and of a run that writes it, is as long as the call asks. Assumes nothing.
use Rattle.std.specs.Prelude.{ℕ, ◌≤◌, ◌≡◌, List, T, length, Float}
use Rattle.std.proofs.Common.{sym, ap, ◌∙◌, le_refl, eq-eqb}
use Rattle.binary64.specs.Operators.{f64}
use Rattle.runs.specs.RunAnswers.{writes_answer}
use Rattle.runs.specs.Lowest.{Room}
use Rattle.discharge_run.specs.Discharge as DR
use Rattle.replay_run.specs.Replay as R
use Rattle.cycle_run.specs.declared.CycleSettings.{CycleSettings}
use Rattle.galvanostatic_run.specs.Galvanostatic as GR
use Rattle.cell_images.specs.Images.{cell_at}
use Rattle.dfn_images.specs.Images as I
use Rattle.cell_calls.specs.Steps as CS
use Rattle.cell_calls.specs.Runs as CR
use Rattle.dfn_calls.specs.Steps as PS
use Rattle.image_builds.specs.Builds.{new_return, new_after, build_length, built_length}
use Rattle.boundary.specs.Calls as B
use Rattle.boundary.specs.Runs as BR
use Rattle.image_laws.specs.Accepted.{accepted}
use Rattle.image_laws.specs.Encodable.{literal}
use Rattle.image_laws.specs.CellSteps.{particle_answer_lem, cell_answer}
use Rattle.image_laws.specs.CellRuns.{discharge_held, replay_held, cycle_held}
use Rattle.image_laws.specs.CellBuilds.{particle_built, cell_build_return, cell_build_after, cell_built_lem}
use Rattle.image_laws.specs.ElectrolyteSteps.{electrolyte_answer}
use Rattle.image_laws.specs.DfnSteps.{dfn_answer}
use Rattle.image_laws.specs.DfnRuns.{dfn_run_answer}
use Rattle.image_laws.specs.DfnBuilds.{electrolyte_built_lem, dfn_built}
use Rattle.image_layout.specs.Layout.{particle_bytes, electrolyte_bytes, cell_bytes, cell_run_bytes, cell_step_bytes, phases_bytes, dfn_bytes, dfn_run_bytes, dfn_step_bytes, new_particle_bytes, regions_bytes, new_dfn_bytes}

-- ---- steps
pub particle_step_length : (s : List ℕ) (j dt t : Float) (a : List ℕ) → B.particle_return s j dt t (length a) ≡ 0 → length (B.particle_after s j dt t a) ≡ particle_bytes
unfolding B.particle_return B.particle_after
particle_step_length s j dt t a h =
    let c = accepted s a particle_bytes particle_bytes (CS.particle_return s j dt t) (CS.particle_after s j dt t a) h in
    ap length c.writes ∙ (particle_answer_lem s j dt t a c.refusal (rw c.answer (le_refl particle_bytes))).size ∙ c.answer

pub cell_step_length : (s : List ℕ) (i dt t : Float) (a : List ℕ) → B.cell_return s i dt t (length a) ≡ 0 → length (B.cell_after s i dt t a) ≡ cell_step_bytes
unfolding B.cell_return B.cell_after
cell_step_length s i dt t a h =
    let c = accepted s a cell_bytes cell_step_bytes (CS.cell_return s i dt t) (CS.cell_after s i dt t a) h in
    ap length c.writes ∙ (cell_answer s i dt t a c.refusal c.answer).size ∙ c.answer

pub electrolyte_step_length : (s : List ℕ) (j_neg j_pos dt t : Float) (a : List ℕ) → B.electrolyte_return s j_neg j_pos dt t (length a) ≡ 0
    → length (B.electrolyte_after s j_neg j_pos dt t a) ≡ electrolyte_bytes
unfolding B.electrolyte_return B.electrolyte_after
electrolyte_step_length s j_neg j_pos dt t a h =
    let c = accepted s a electrolyte_bytes electrolyte_bytes (PS.electrolyte_return s j_neg j_pos dt t) (PS.electrolyte_after s j_neg j_pos dt t a) h in
    ap length c.writes ∙ (electrolyte_answer s j_neg j_pos dt t a c.refusal (rw c.answer (le_refl electrolyte_bytes))).size ∙ c.answer

pub dfn_step_length : (s : List ℕ) (bits : ℕ) (dt : Float) (a : List ℕ) → B.dfn_return s (f64 bits) dt (length a) ≡ 0 → length (B.dfn_after s (f64 bits) dt a) ≡ dfn_step_bytes
unfolding B.dfn_return B.dfn_after
dfn_step_length s bits dt a h =
    let c = accepted s a dfn_bytes dfn_step_bytes (PS.dfn_return s (f64 bits) dt) (PS.dfn_after s (f64 bits) dt a) h in
    ap length c.writes ∙ (dfn_answer s (f64 bits) dt a (literal bits) c.refusal c.answer).size ∙ c.answer

-- ---- runs
pub discharge_length : (s : List ℕ) (i dt t limit : Float) (places : Room) (a : List ℕ) → length s ≡ cell_bytes → length a ≡ cell_run_bytes
    → T (writes_answer (DR.discharged (DR.run_settings i dt t limit) (cell_at s) places).ended.refusal (DR.discharged (DR.run_settings i dt t limit) (cell_at s) places).rows)
    → length (BR.discharge_after s i dt t limit places a) ≡ cell_run_bytes
discharge_length s i dt t limit places a m n h = (discharge_held s i dt t limit places a m n h).cell.size ∙ n

pub replay_length : (s text : List ℕ) (t : Float) (places : ℕ) (a : List ℕ) → length s ≡ cell_bytes → length a ≡ cell_run_bytes
    → T (writes_answer (R.replayed text t (cell_at s) places).ended.refusal (R.replayed text t (cell_at s) places).rows) → length (BR.replay_after s text t places a) ≡ cell_run_bytes
replay_length s text t places a m n h = (replay_held s text t places a m n h).cell.size ∙ n

pub cycle_length : (s phases : List ℕ) (g : CycleSettings) (places : ℕ) (a : List ℕ) → length s ≡ cell_bytes → length phases ≡ phases_bytes → length a ≡ cell_run_bytes
    → T (writes_answer (CR.cycled_from phases g (cell_at s) places).ended.refusal (CR.cycled_from phases g (cell_at s) places).rows) → length (BR.cycle_after s phases g places a) ≡ cell_run_bytes
cycle_length s phases g places a m p n h = (cycle_held s phases g places a m p n h).cell.size ∙ n

pub galvanostatic_length : (s : List ℕ) (bits : ℕ) (dt limit : Float) (places : Room) (a : List ℕ) → length s ≡ dfn_bytes → length a ≡ dfn_run_bytes
    → T (writes_answer (GR.galvanostatic (I.cell_at s) (f64 bits) dt limit places).ended.refusal (GR.galvanostatic (I.cell_at s) (f64 bits) dt limit places).rows)
    → length (BR.galvanostatic_after s (f64 bits) dt limit places a) ≡ dfn_run_bytes
unfolding BR.galvanostatic_after
galvanostatic_length s bits dt limit places a m n h =
    rw (eq-eqb (length s) dfn_bytes m, eq-eqb (length a) dfn_run_bytes n) ((dfn_run_answer s (f64 bits) dt limit places a n (literal bits) h).size ∙ n)

-- ---- builds
pub particle_build_length : (s a : List ℕ) → B.build_return 7 s (length a) ≡ 0 → length (B.build_after 7 s a) ≡ particle_bytes
unfolding B.build_return B.build_after build_length built_length
particle_build_length s a h =
    let c = accepted s a new_particle_bytes particle_bytes (new_return 7 s) (new_after 7 s a) h in
    ap length c.writes ∙ (particle_built s a c.refusal (rw c.answer (le_refl particle_bytes))).size ∙ c.answer

pub cell_build_length : (call : ℕ) (s a : List ℕ) → 8 ≤ call → call ≤ 10 → B.build_return call s (length a) ≡ 0 → length (B.build_after call s a) ≡ cell_bytes
cell_build_length call s a m n h =
    let c = accepted s a (build_length call) cell_bytes (new_return call s) (new_after call s a) (sym (cell_build_return call s a m n) ∙ h) in
    ap length (cell_build_after call s a m n ∙ c.writes) ∙ (cell_built_lem call s a m n c.refusal (rw c.answer (le_refl cell_bytes))).size ∙ c.answer

pub electrolyte_build_length : (s a : List ℕ) → B.build_return 11 s (length a) ≡ 0 → length (B.build_after 11 s a) ≡ electrolyte_bytes
unfolding B.build_return B.build_after build_length built_length
electrolyte_build_length s a h =
    let c = accepted s a regions_bytes electrolyte_bytes (new_return 11 s) (new_after 11 s a) h in
    ap length c.writes ∙ (electrolyte_built_lem s a c.refusal (rw c.answer (le_refl electrolyte_bytes))).size ∙ c.answer

pub dfn_build_length : (s a : List ℕ) → B.build_return 12 s (length a) ≡ 0 → length (B.build_after 12 s a) ≡ dfn_bytes
unfolding B.build_return B.build_after build_length built_length
dfn_build_length s a h =
    let c = accepted s a new_dfn_bytes dfn_bytes (new_return 12 s) (new_after 12 s a) h in
    ap length c.writes ∙ (dfn_built s a c.refusal (rw c.answer (le_refl dfn_bytes))).size ∙ c.answer
