-- WHAT IS WRITTEN IS READ BACK, for each call from C that returns 0: the record, the report, the number or the solution in its answer is the one that the
-- call's definition gives. That the call returns 0 is the only premise: then its lengths are right. A number that an answer repeats is given by its 64 bits, as
-- C gives it (`f64 bits`). Assumes nothing.
use Rattle.std.specs.Prelude.{ℕ, ◌≤◌, ◌<◌, ◌^◌, ◌+◌, ◌≡◌, refl, Bool, true, false, cond, List, T, eqb, length, take, Float}
use Rattle.std.proofs.Common.{sym, ap, ◌∙◌, arith, le_refl, eq-eqb, ne_eqb, le-leb, eqb-true}
use Rattle.std.proofs.Math.Bool.{and-eq-true_iff}
use Rattle.std.proofs.lemmas.Bool.{lt-leb}
use Rattle.binary64.specs.Operators.{f64}
use Rattle.refusal.specs.Numbers as N
use Rattle.runs.specs.RunAnswers.{writes_answer}
use Rattle.runs.specs.Lowest.{Room}
use Rattle.electrolyte_parameters.specs.Params.{lipf6_ec_dmc}
use Rattle.particle.specs.Calls as P
use Rattle.solver.specs.Step as S
use Rattle.electrolyte.specs.Calls as E
use Rattle.dfn.specs.Step as D
use Rattle.discharge_run.specs.Discharge as DR
use Rattle.replay_run.specs.Replay as R
use Rattle.cycle_run.specs.declared.CycleSettings.{CycleSettings}
use Rattle.galvanostatic_run.specs.Galvanostatic as GR
use Rattle.codec.specs.Words.{word_at, places_at, put_row}
use Rattle.sheet_images.specs.Images.{sheet_at, particle_at}
use Rattle.cell_images.specs.Images.{cell_at}
use Rattle.electrolyte_images.specs.Images.{electrolyte_params_at, electrolyte_at}
use Rattle.parameter_images.specs.Images.{params_at}
use Rattle.dfn_images.specs.Images as I
use Rattle.cell_calls.specs.Steps as CS
use Rattle.cell_calls.specs.Runs as CR
use Rattle.dfn_calls.specs.Steps as PS
use Rattle.dfn_calls.specs.Runs as PR
use Rattle.image_numbers.specs.Numbers.{number_outcome, number_length}
use Rattle.image_builds.specs.Builds.{ready_sheet, ready_params, particle_made, cell_built, electrolyte_built, dfn_made, new_return, new_after, ready_put, build_length, built_length}
use Rattle.boundary.specs.Calls as B
use Rattle.boundary.specs.Runs as BR
use Rattle.image_laws.specs.Accepted.{after_lengths_lem, accepted, no_refusal}
use Rattle.image_laws.specs.Encodable.{literal}
use Rattle.image_laws.specs.Rows.{row_written}
use Rattle.image_laws.specs.CellImages.{particle_in}
use Rattle.image_laws.specs.Reports.{cell_report_at}
use Rattle.image_laws.specs.CellSteps.{particle_answer_lem, cell_answer, sub_steps_answer, report_answer}
use Rattle.image_laws.specs.CellRuns.{RunHeld, discharge_held, replay_held, cycle_held}
use Rattle.image_laws.specs.CellBuilds.{particle_built, cell_build_return, cell_build_after, cell_built_lem}
use Rattle.image_laws.specs.ElectrolyteSteps.{electrolyte_answer}
use Rattle.image_laws.specs.DfnSteps.{dfn_answer}
use Rattle.image_laws.specs.DfnRuns.{dfn_run_answer, dfn_run_ending_answer, dfn_run_rows_answer}
use Rattle.image_laws.specs.DfnBuilds.{electrolyte_built_lem, dfn_built}
use Rattle.image_laws.specs.ReadyRecords.{sheet_ready, electrolyte_params_ready, params_ready}
use Rattle.image_laws.specs.Numbers.{number_answered}
use Rattle.image_layout.specs.Layout.{cell_sub_steps, particle_bytes, electrolyte_bytes, cell_bytes, cell_run_bytes, cell_step_bytes, phases_bytes, dfn_bytes, dfn_run_bytes, dfn_step_bytes, cell_ending, new_particle_bytes, regions_bytes, new_dfn_bytes, sheet_bytes, electrolyte_params_bytes}

-- ---- steps
pub particle_step_read_back : (s : List ℕ) (j dt t : Float) (a : List ℕ) → B.particle_return s j dt t (length a) ≡ 0
    → particle_at (B.particle_after s j dt t a) 0 ≡ (P.stepped (particle_at s 0) j dt t).particle
unfolding B.particle_return B.particle_after
particle_step_read_back s j dt t a h =
    let c = accepted s a particle_bytes particle_bytes (CS.particle_return s j dt t) (CS.particle_after s j dt t a) h in
    ap particle_in c.writes ∙ (particle_answer_lem s j dt t a c.refusal (rw c.answer (le_refl particle_bytes))).whole

pub cell_step_read_back : (s : List ℕ) (i dt t : Float) (a : List ℕ) → B.cell_return s i dt t (length a) ≡ 0
    → cell_at (take cell_bytes (B.cell_after s i dt t a)) ≡ (S.stepped (cell_at s) i dt t).solver
unfolding B.cell_return B.cell_after
cell_step_read_back s i dt t a h =
    let c = accepted s a cell_bytes cell_step_bytes (CS.cell_return s i dt t) (CS.cell_after s i dt t a) h in
    ap (λ (b : List ℕ). cell_at (take cell_bytes b)) c.writes ∙ (cell_answer s i dt t a c.refusal c.answer).first

pub cell_report_read_back : (s : List ℕ) (bits : ℕ) (dt t : Float) (a : List ℕ) → B.cell_return s (f64 bits) dt t (length a) ≡ 0
    → cell_report_at (B.cell_after s (f64 bits) dt t a) ≡ (S.stepped (cell_at s) (f64 bits) dt t).state
unfolding B.cell_return B.cell_after
cell_report_read_back s bits dt t a h =
    let c = accepted s a cell_bytes cell_step_bytes (CS.cell_return s (f64 bits) dt t) (CS.cell_after s (f64 bits) dt t a) h in
    ap cell_report_at c.writes ∙ report_answer s (f64 bits) dt t a c.refusal c.answer (literal bits)

pub sub_steps_read_back : (s : List ℕ) (i dt t : Float) (a : List ℕ) → B.cell_return s i dt t (length a) ≡ 0
    → word_at (B.cell_after s i dt t a) cell_sub_steps ≡ (S.stepped (cell_at s) i dt t).sub_steps
unfolding B.cell_return B.cell_after
sub_steps_read_back s i dt t a h =
    let c = accepted s a cell_bytes cell_step_bytes (CS.cell_return s i dt t) (CS.cell_after s i dt t a) h in
    ap (λ (b : List ℕ). word_at b cell_sub_steps) c.writes ∙ sub_steps_answer s i dt t a c.refusal c.answer

pub electrolyte_step_read_back : (s : List ℕ) (j_neg j_pos dt t : Float) (a : List ℕ) → B.electrolyte_return s j_neg j_pos dt t (length a) ≡ 0
    → electrolyte_at (B.electrolyte_after s j_neg j_pos dt t a) ≡ (E.stepped (electrolyte_at s) j_neg j_pos dt t).state
unfolding B.electrolyte_return B.electrolyte_after
electrolyte_step_read_back s j_neg j_pos dt t a h =
    let c = accepted s a electrolyte_bytes electrolyte_bytes (PS.electrolyte_return s j_neg j_pos dt t) (PS.electrolyte_after s j_neg j_pos dt t a) h in
    ap electrolyte_at c.writes ∙ (electrolyte_answer s j_neg j_pos dt t a c.refusal (rw c.answer (le_refl electrolyte_bytes))).whole

pub dfn_step_read_back : (s : List ℕ) (bits : ℕ) (dt : Float) (a : List ℕ) → B.dfn_return s (f64 bits) dt (length a) ≡ 0
    → I.cell_at (take dfn_bytes (B.dfn_after s (f64 bits) dt a)) ≡ (D.stepped (I.cell_at s) (f64 bits) dt).cell
unfolding B.dfn_return B.dfn_after
dfn_step_read_back s bits dt a h =
    let c = accepted s a dfn_bytes dfn_step_bytes (PS.dfn_return s (f64 bits) dt) (PS.dfn_after s (f64 bits) dt a) h in
    ap (λ (b : List ℕ). I.cell_at (take dfn_bytes b)) c.writes ∙ (dfn_answer s (f64 bits) dt a (literal bits) c.refusal c.answer).first

-- ---- runs: the cell, the ending and the count of rows, where the run returns 0 or has written a row. Lengths from C are below 2 ^ 64.
pub record CellRunReadBack (b : List ℕ) (r : DR.RunOutcome) (places : ℕ) : Type 0 where
  pub cell : cell_at (take cell_bytes b) ≡ r.solver
  pub ending : word_at b cell_ending ≡ r.ended.ending
  pub rows : places < 2 ^ 64 → word_at b (cell_ending + 1) ≡ r.rows

held_read_back : (b a : List ℕ) (r : DR.RunOutcome) (places : ℕ) → RunHeld b a r places → CellRunReadBack b r places
held_read_back b a r places d = record { cell = d.cell.first; ending = d.ending; rows = d.rows }

abbrev pub DischargeReadBack : List ℕ → Float → Float → Float → Float → Room → List ℕ → Type 0
DischargeReadBack s i dt t limit places a = CellRunReadBack (BR.discharge_after s i dt t limit places a) (DR.discharged (DR.run_settings i dt t limit) (cell_at s) places) places.rows

pub discharge_read_back : (s : List ℕ) (i dt t limit : Float) (places : Room) (a : List ℕ) → length s ≡ cell_bytes → length a ≡ cell_run_bytes
    → T (writes_answer (DR.discharged (DR.run_settings i dt t limit) (cell_at s) places).ended.refusal (DR.discharged (DR.run_settings i dt t limit) (cell_at s) places).rows)
    → DischargeReadBack s i dt t limit places a
discharge_read_back s i dt t limit places a m n h = held_read_back _ a _ places.rows (discharge_held s i dt t limit places a m n h)

pub accepted_discharge_read_back : (s : List ℕ) (i dt t limit : Float) (places : Room) (a : List ℕ) → BR.discharge_return s i dt t limit places (length a) ≡ 0
    → DischargeReadBack s i dt t limit places a
unfolding BR.discharge_return CR.discharge_return
accepted_discharge_read_back s i dt t limit places a h =
    let r = DR.discharged (DR.run_settings i dt t limit) (cell_at s) places in
    let c = accepted s a cell_bytes cell_run_bytes r.ended.refusal a h in
    discharge_read_back s i dt t limit places a c.image c.answer (no_refusal r.ended.refusal r.rows c.refusal)

abbrev pub ReplayReadBack : List ℕ → List ℕ → Float → ℕ → List ℕ → Type 0
ReplayReadBack s text t places a = CellRunReadBack (BR.replay_after s text t places a) (R.replayed text t (cell_at s) places) places

pub replay_read_back : (s text : List ℕ) (t : Float) (places : ℕ) (a : List ℕ) → length s ≡ cell_bytes → length a ≡ cell_run_bytes
    → T (writes_answer (R.replayed text t (cell_at s) places).ended.refusal (R.replayed text t (cell_at s) places).rows) → ReplayReadBack s text t places a
replay_read_back s text t places a m n h = held_read_back _ a _ places (replay_held s text t places a m n h)

pub accepted_replay_read_back : (s text : List ℕ) (t : Float) (places : ℕ) (a : List ℕ) → BR.replay_return s text t places (length a) ≡ 0 → ReplayReadBack s text t places a
unfolding BR.replay_return CR.replay_return
accepted_replay_read_back s text t places a h =
    let r = R.replayed text t (cell_at s) places in
    let c = accepted s a cell_bytes cell_run_bytes r.ended.refusal a (text_taken (R.text_fits text) _ h) in
    replay_read_back s text t places a c.image c.answer (no_refusal r.ended.refusal r.rows c.refusal)
  where
    text_taken : (b : Bool) (k : ℕ) → cond b k N.file ≡ 0 → k ≡ 0
    text_taken true k h = h
    text_taken false k h = absurd (omega (arith, h))

abbrev pub CycleReadBack : List ℕ → List ℕ → CycleSettings → ℕ → List ℕ → Type 0
CycleReadBack s phases g places a = CellRunReadBack (BR.cycle_after s phases g places a) (CR.cycled_from phases g (cell_at s) places) places

pub cycle_read_back : (s phases : List ℕ) (g : CycleSettings) (places : ℕ) (a : List ℕ) → length s ≡ cell_bytes → length phases ≡ phases_bytes → length a ≡ cell_run_bytes
    → T (writes_answer (CR.cycled_from phases g (cell_at s) places).ended.refusal (CR.cycled_from phases g (cell_at s) places).rows) → CycleReadBack s phases g places a
cycle_read_back s phases g places a m p n h = held_read_back _ a _ places (cycle_held s phases g places a m p n h)

pub accepted_cycle_read_back : (s phases : List ℕ) (g : CycleSettings) (places : ℕ) (a : List ℕ) → BR.cycle_return s phases g places (length a) ≡ 0 → CycleReadBack s phases g places a
unfolding BR.cycle_return CR.cycle_return
accepted_cycle_read_back s phases g places a h =
    let r = CR.cycled_from phases g (cell_at s) places in
    let c = after_lengths_lem (BR.cycle_lengths (length s) (length phases) (length a)) r.ended.refusal h in
    let d = (and-eq-true_iff _ _).0 c.0 in
    let e = (and-eq-true_iff _ _).0 d.0 in
    cycle_read_back s phases g places a (eqb-true (length s) cell_bytes e.0) (eqb-true (length phases) phases_bytes e.1) (eqb-true (length a) cell_run_bytes d.1)
    (no_refusal r.ended.refusal r.rows c.1)

pub record GalvanostaticReadBack (s : List ℕ) (i dt limit : Float) (places : Room) (a : List ℕ) : Type 0 where
  pub cell : I.cell_at (take dfn_bytes (BR.galvanostatic_after s i dt limit places a)) ≡ (GR.galvanostatic (I.cell_at s) i dt limit places).cell
  pub ending : word_at (BR.galvanostatic_after s i dt limit places a) 1126 ≡ (GR.galvanostatic (I.cell_at s) i dt limit places).ended.ending
  pub rows : places.rows < 2 ^ 64 → word_at (BR.galvanostatic_after s i dt limit places a) 1127 ≡ (GR.galvanostatic (I.cell_at s) i dt limit places).rows

pub galvanostatic_read_back : (s : List ℕ) (bits : ℕ) (dt limit : Float) (places : Room) (a : List ℕ) → length s ≡ dfn_bytes → length a ≡ dfn_run_bytes
    → T (writes_answer (GR.galvanostatic (I.cell_at s) (f64 bits) dt limit places).ended.refusal (GR.galvanostatic (I.cell_at s) (f64 bits) dt limit places).rows)
    → GalvanostaticReadBack s (f64 bits) dt limit places a
unfolding BR.galvanostatic_after
galvanostatic_read_back s bits dt limit places a m n h =
    let i = f64 bits in
    let e : BR.galvanostatic_after s i dt limit places a ≡ PR.galvanostatic_after s i dt limit places a = rw (eq-eqb (length s) dfn_bytes m, eq-eqb (length a) dfn_run_bytes n) in
    record {
      cell = ap (λ (b : List ℕ). I.cell_at (take dfn_bytes b)) e ∙ (dfn_run_answer s i dt limit places a n (literal bits) h).first;
      ending = ap (λ (b : List ℕ). word_at b 1126) e ∙ dfn_run_ending_answer s i dt limit places a n (literal bits) h;
      rows = λ l. ap (λ (b : List ℕ). word_at b 1127) e ∙ dfn_run_rows_answer s i dt limit places a n (literal bits) h l;
    }

pub accepted_galvanostatic_read_back : (s : List ℕ) (bits : ℕ) (dt limit : Float) (places : Room) (a : List ℕ) → BR.galvanostatic_return s (f64 bits) dt limit places (length a) ≡ 0
    → GalvanostaticReadBack s (f64 bits) dt limit places a
unfolding BR.galvanostatic_return PR.galvanostatic_return
accepted_galvanostatic_read_back s bits dt limit places a h =
    let r = GR.galvanostatic (I.cell_at s) (f64 bits) dt limit places in
    let c = accepted s a dfn_bytes dfn_run_bytes r.ended.refusal a h in
    galvanostatic_read_back s bits dt limit places a c.image c.answer (no_refusal r.ended.refusal r.rows c.refusal)

-- ---- builds: 7 a particle, 8 to 10 a single-particle cell, 11 an electrolyte, 12 a Doyle-Fuller-Newman cell
pub particle_build_read_back : (s a : List ℕ) → B.build_return 7 s (length a) ≡ 0 → particle_at (B.build_after 7 s a) 0 ≡ (particle_made s).particle
unfolding B.build_return B.build_after build_length built_length
particle_build_read_back s a h =
    let c = accepted s a new_particle_bytes particle_bytes (new_return 7 s) (new_after 7 s a) h in
    ap particle_in c.writes ∙ (particle_built s a c.refusal (rw c.answer (le_refl particle_bytes))).whole

pub cell_build_read_back : (call : ℕ) (s a : List ℕ) → 8 ≤ call → call ≤ 10 → B.build_return call s (length a) ≡ 0 → cell_at (B.build_after call s a) ≡ (cell_built call s).solver
cell_build_read_back call s a m n h =
    let c = accepted s a (build_length call) cell_bytes (new_return call s) (new_after call s a) (sym (cell_build_return call s a m n) ∙ h) in
    ap cell_at (cell_build_after call s a m n ∙ c.writes) ∙ (cell_built_lem call s a m n c.refusal (rw c.answer (le_refl cell_bytes))).whole

pub electrolyte_build_read_back : (s a : List ℕ) → B.build_return 11 s (length a) ≡ 0 → electrolyte_at (B.build_after 11 s a) ≡ (electrolyte_built s).state
unfolding B.build_return B.build_after build_length built_length
electrolyte_build_read_back s a h =
    let c = accepted s a regions_bytes electrolyte_bytes (new_return 11 s) (new_after 11 s a) h in
    ap electrolyte_at c.writes ∙ (electrolyte_built_lem s a c.refusal (rw c.answer (le_refl electrolyte_bytes))).whole

pub dfn_build_read_back : (s a : List ℕ) → B.build_return 12 s (length a) ≡ 0 → I.cell_at (B.build_after 12 s a) ≡ (dfn_made s).cell
unfolding B.build_return B.build_after build_length built_length
dfn_build_read_back s a h =
    let c = accepted s a new_dfn_bytes dfn_bytes (new_return 12 s) (new_after 12 s a) h in
    ap I.cell_at c.writes ∙ (dfn_built s a c.refusal (rw c.answer (le_refl dfn_bytes))).whole

-- the ready records: 1 to 3 a sheet, 4 an electrolyte's parameters, 5 and 6 those of a Doyle-Fuller-Newman cell
pub ready_sheet_read_back : (call : ℕ) (s a : List ℕ) → 1 ≤ call → call ≤ 3 → B.build_return call s (length a) ≡ 0 → sheet_at (B.build_after call s a) 0 ≡ ready_sheet call
unfolding B.build_return B.build_after built_length
ready_sheet_read_back call s a m n h =
    let l1 = le-leb 1 call m in
    let l12 = le-leb call 12 (omega (arith, n)) in
    let l3 = le-leb call 3 n in
    let l6 = le-leb call 6 (omega (arith, n)) in
    let c = accepted s a (build_length call) sheet_bytes 0 (ready_put call a) (rw (l1, l12, l3, l6) at h) in
    rw (l1, l12, l3, l6) (ap (λ (b : List ℕ). sheet_at b 0) c.writes ∙ sheet_ready call a n (rw c.answer (le_refl sheet_bytes)))

pub ready_electrolyte_params_read_back : (s a : List ℕ) → B.build_return 4 s (length a) ≡ 0 → electrolyte_params_at (B.build_after 4 s a) ≡ lipf6_ec_dmc
unfolding B.build_return B.build_after build_length built_length
ready_electrolyte_params_read_back s a h =
    let c = accepted s a 0 electrolyte_params_bytes 0 (ready_put 4 a) h in
    ap electrolyte_params_at c.writes ∙ electrolyte_params_ready a (rw c.answer (le_refl electrolyte_params_bytes))

pub ready_params_read_back : (call : ℕ) (s a : List ℕ) → 5 ≤ call → call ≤ 6 → B.build_return call s (length a) ≡ 0 → params_at (B.build_after call s a) ≡ ready_params call
unfolding B.build_return B.build_after built_length
ready_params_read_back call s a m n h =
    let l1 = le-leb 1 call (omega (arith, m)) in
    let l12 = le-leb call 12 (omega (arith, n)) in
    let l3 = lt-leb call 3 (omega (arith, m)) in
    let e4 = ne_eqb call 4 (λ (e : call ≡ 4). omega (arith, m, e)) in
    let l6 = le-leb call 6 n in
    let c = accepted s a (build_length call) 472 0 (ready_put call a) (rw (l1, l12, l3, e4, l6) at h) in
    rw (l1, l12, l3, e4, l6) (ap params_at c.writes ∙ params_ready call a m (rw c.answer (le_refl 472)))

-- ---- numbers: the eight bytes are the one value that the call says
pub number_read_back : (call : ℕ) (s : List ℕ) (x y : Float) (a : List ℕ) → (B.number_call call s x y (length a)).refusal ≡ 0
    → places_at 1 (put_row a 0 (B.number_call call s x y (length a)).values) 0 ≡ (number_outcome call s x y).values
unfolding B.number_call
number_read_back call s x y a = go (B.listed call 19) (B.lengths (length s) (number_length call) (length a) 8) refl refl
  where
    go : (u v : Bool) → B.listed call 19 ≡ u → B.lengths (length s) (number_length call) (length a) 8 ≡ v → (B.number_call call s x y (length a)).refusal ≡ 0
        → places_at 1 (put_row a 0 (B.number_call call s x y (length a)).values) 0 ≡ (number_outcome call s x y).values
    go true true d e h =
        let n = number_answered call s x y in
        let l : length a ≡ 8 = eqb-true (length a) 8 ((and-eq-true_iff (eqb (length s) (number_length call)) (eqb (length a) 8)).0 e).1 in
        let z : (number_outcome call s x y).refusal ≡ 0 = rw (d, e) at h in
        rw (d, e) (row_written 1 a 0 (number_outcome call s x y).values (n.one z) (rw l (le_refl 8)) n.places)
    go true false d e h = let z : N.bad_length ≡ 0 = rw (d, e) at h in absurd (omega (arith, z))
    go false v d e h = let z : N.sheet ≡ 0 = rw d at h in absurd (omega (arith, z))
