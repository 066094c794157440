-- THEOREMS 1, 2 AND 3 OF THE THIRD DEMAND, OF CALLS FROM C. An image of the right length whose record passes the checks, and any list of calls, each handed the
-- last accepted answer, refused calls and answers of wrong lengths among them: the nodes are words of the last image, the accepted calls those that return 0,
-- the sub-steps those that the answers report. Assumes nothing.
use Rattle.std.specs.Prelude.{ℕ, ◌+◌, ◌<◌, ◌≡◌, refl, List, eqb, length}
use Rattle.std.proofs.Common.{sym, ap, ◌∙◌, subst, arith, eq-eqb, lit≤, length-take-le}
use Rattle.image_laws.specs.CellImages.{particle_in}
use Rattle.fraction.specs.Fraction.{nat, pow2, ◌+F◌, ◌-F◌, ◌*F◌, ◌/F◌, ◌≤F◌, ◌within◌}
use Rattle.binary64.specs.Value.{val}
use Rattle.diffusion.specs.Calls as DF
use Rattle.diffusion.specs.Premises.{FluxBound, StepConditions}
use Rattle.diffusion.specs.Run.{Each}
use Rattle.particle.specs.Checks.{particle_refusal, nodes_of}
use Rattle.particle_laws.specs.Demand as PD
use Rattle.solver.specs.declared.SpmSolver.{SpmSolver}
use Rattle.solver.specs.Cell.{cell_refusal}
use Rattle.solver_laws.specs.Electrodes.{Electrode, nodes_are}
use Rattle.solver_laws.specs.Demand as SD
use Rattle.solver_laws.proofs.Demand.{solver_near}
use Rattle.solver_laws.specs.Closure as SC
use Rattle.solver_laws.specs.Electrodes as L
use Rattle.particle.specs.Particle.{place_of}
use Rattle.codec.specs.Words.{float_at, word_at}
use Rattle.sheet_images.specs.Images.{particle_at}
use Rattle.cell_calls.specs.Steps as CS
use Rattle.boundary.specs.Calls as B
use Rattle.image_laws.specs.AnswerLengths.{cell_step_length}
use Rattle.image_laws.specs.ReadBack.{cell_step_read_back, sub_steps_read_back}
use Rattle.cell_images.specs.Images.{cell_at}
use Rattle.boundary_laws.specs.CallLists.{CCall, image_after, accepted_calls, well_formed_of, Implements, simulates, reported_is, plain_implements}
use Rattle.boundary_laws.specs.StepLists.{particle_steps, cell_steps, particle_simulates, reported_sub_steps, cell_after_lem, cell_accepted, sub_steps_value, cell_total}
use Rattle.boundary_laws.specs.Nodes.{first_node, node_of, node_at, most_at, row_place, particle_nodes_lem, node_below}
use Rattle.image_layout.specs.Layout.{particle_bytes, cell_bytes, cell_step_bytes, cell_sub_steps, cell_anode_profile, cell_cathode_profile}

-- ---- a particle: lists of `pj_particle_step`
-- the calls that return 0 keep the demand's two conditions
abbrev pub ParticleStepConditions : List ℕ → List (CCall PD.Call) → Type 0
ParticleStepConditions s qs = Each (λ q. StepConditions (PD.numbers_of_of (particle_in s) q)) (accepted_calls particle_steps s qs)

-- THEOREM 1. Every node of the last image is within K·M / 2 ^ 49 of the exact one, K the number of calls that return 0.
pub particle_images_near : (s : List ℕ) (qs : List (CCall PD.Call)) → length s ≡ particle_bytes → particle_refusal (particle_in s) ≡ 0 → ParticleStepConditions s qs
    → (i : ℕ) → i < (particle_in s).n_nodes
    → node_of (image_after particle_steps s qs) i -F PD.exact_place (particle_in s) (well_formed_of particle_steps qs) i
    within nat (length (accepted_calls particle_steps s qs)) *F val (particle_in s).params.c_s_max /F pow2 49
particle_images_near s qs l h ks i m =
    let p = particle_in s in
    let w = well_formed_of particle_steps qs in
    let f = particle_simulates qs s l in
    let n = (nodes_of p h).1 in
    rw (← particle_nodes_lem (image_after particle_steps s qs) (DF.after (PD.steps p) p w) f.particle i (omega (arith, m, n)), f.calls)
    (PD.particle_near p w h (subst (Each (λ q. StepConditions (PD.numbers_of_of p q))) f.calls ks) i m)

-- after any list the image's particle passes the checks
pub particle_images_pass : (s : List ℕ) (qs : List (CCall PD.Call)) → length s ≡ particle_bytes → particle_refusal (particle_in s) ≡ 0 → particle_refusal (particle_in (image_after particle_steps s qs)) ≡ 0
particle_images_pass s qs l h = rw (particle_simulates qs s l).particle (PD.after_passes (particle_in s) (well_formed_of particle_steps qs) h)

-- ---- a cell: lists of `pj_cell_step`
-- the calls that return 0 keep 2·h·∣flux∣ ≤ D·M at an electrode
abbrev pub CellFluxBounds : Electrode → List ℕ → List (CCall SD.Call) → Type 0
CellFluxBounds e s qs = Each (λ q. FluxBound (SD.numbers_at e (cell_at s) q)) (accepted_calls cell_steps s qs)

-- THEOREM 2. Every node of the electrode e in the last image is within K·M / 2 ^ 49 of the exact one, K the sub-steps that the answers report. Nothing is asked
-- of the other electrode.
pub cell_images_near : (e : Electrode) (s : List ℕ) (qs : List (CCall SD.Call)) → length s ≡ cell_bytes → cell_refusal (cell_at s) ≡ 0 → CellFluxBounds e s qs
    → (i : ℕ) → i < (cell_at s).config.n_nodes
    → node_at e (image_after cell_steps s qs) i -F SD.exact_place e (cell_at s) (well_formed_of cell_steps qs) i within nat (reported_sub_steps s qs) *F most_at e (cell_at s) /F pow2 49
cell_images_near e s qs l h bs i m =
    let w = well_formed_of cell_steps qs in
    let implement : Implements cell_steps =
    plain_implements cell_steps
    (record {
      returned_is = returned;
      handed_is = λ s q a. refl;
      accepted_reads = λ s q a h. cell_step_read_back s q.current q.dt q.temp a h;
      accepted_fills = λ s q a h. length-take-le cell_bytes (cell_steps.left s q a) (rw (cell_step_length s q.current q.dt q.temp a h) (lit≤ tt));
      refused_keeps = λ c q n. (SC.step_refused c q.current q.dt q.temp n).0;
    }) in
    let f = simulates cell_steps implement qs s l in
    let cell : cell_at (image_after cell_steps s qs) ≡ SD.cell_after (cell_at s) w = f.reads ∙ cell_after_lem w (cell_at s) in
    let calls : accepted_calls cell_steps s qs ≡ SD.taken (cell_at s) w = f.calls ∙ cell_accepted w (cell_at s) in
    let count : reported_sub_steps s qs ≡ SD.K (cell_at s) w =
    reported_is cell_steps implement (λ a. word_at a cell_sub_steps) sub_steps_value (λ s q a h. sub_steps_read_back s q.current q.dt q.temp a h)
    (λ c q n. (SC.step_refused c q.current q.dt q.temp n).1) qs s l
    ∙ cell_total w (cell_at s) in
    let node : val (place_of (L.particle_at e (SD.cell_after (cell_at s) w)) i) ≡ node_at e (image_after cell_steps s qs) i =
    ap (λ (b : SpmSolver). val (place_of (L.particle_at e b) i)) (sym cell) ∙ ap val (electrode e (image_after cell_steps s qs) i (node_below (cell_at s) h i m)) in
    rw (← node, count) (solver_near e (cell_at s) w h (subst (Each (λ q. FluxBound (SD.numbers_at e (cell_at s) q))) calls bs) i (rw (nodes_are (cell_at s) h e) m))
  where
    returned : (s : List ℕ) (q : SD.Call) (a : List ℕ) → length s ≡ cell_bytes → cell_steps.returned s q a ≡ B.after_lengths (eqb (length a) cell_step_bytes) (SD.answer (cell_at s) q).refusal
    returned s q a l = unfold B.cell_return in unfold CS.cell_return in rw (eq-eqb (length s) cell_bytes l)

    electrode : (e : Electrode) (t : List ℕ) (i : ℕ) → i < 64 → place_of (L.particle_at e (cell_at t)) i ≡ float_at t (first_node e + i)
    electrode Electrode.anode t i l = unfold cell_at in unfold particle_at in row_place t cell_anode_profile i l
    electrode Electrode.cathode t i l = unfold cell_at in unfold particle_at in row_place t cell_cathode_profile i l

-- THEOREM 3. Two images whose cells are of one make with equal profiles and pass the checks; the calls that return 0 keep 2·h·∣flux∣ ≤ D·M at both
-- electrodes and are paired: alike in interval and temperature, the second's current no less. Then no node of the second cathode is more than 2·K·M / 2 ^ 49
-- below the first, and none of the second anode more than that above.
pub record RankedImages (s s' : List ℕ) (qs qs' : List (CCall SD.Call)) : Type 0 where
  pub count : reported_sub_steps s' qs' ≡ reported_sub_steps s qs
  pub cathode : (i : ℕ) → i < (cell_at s).config.n_nodes
      → node_at Electrode.cathode (image_after cell_steps s qs) i -F nat 2 *F nat (reported_sub_steps s qs) *F most_at Electrode.cathode (cell_at s) /F pow2 49
      ≤F node_at Electrode.cathode (image_after cell_steps s' qs') i
  pub anode : (i : ℕ) → i < (cell_at s).config.n_nodes
      → node_at Electrode.anode (image_after cell_steps s' qs') i
      ≤F node_at Electrode.anode (image_after cell_steps s qs) i +F nat 2 *F nat (reported_sub_steps s qs) *F most_at Electrode.anode (cell_at s) /F pow2 49
