-- Lists of one step of C: `pj_particle_step`, `pj_cell_step`, `pj_electrolyte_step`, `pj_dfn_step`. The record of the last image is the record after the same
-- steps. Assumes nothing.
use Rattle.std.specs.Prelude.{ℕ, zero, suc, ◌<◌, ◌≡◌, refl, false, List, [], ◌∷◌, eqb, length, take, Float}
use Rattle.std.proofs.Common.{ap, ◌∙◌, le_refl, zero-lt-suc, eq-eqb, lit≤, take_all, length-take-le}
use Rattle.binary64.specs.Operators.{f64}
use Rattle.diffusion.specs.Calls as DF
use Rattle.particle.specs.declared.ParticleDiffusion.{ParticleDiffusion}
use Rattle.particle_laws.specs.Closure as PC
use Rattle.particle_laws.specs.Demand as PD
use Rattle.solver.specs.declared.SpmSolver.{SpmSolver}
use Rattle.solver_laws.specs.Demand as SD
use Rattle.electrolyte.specs.Calls as E
use Rattle.electrolyte.specs.Again.{step_kept}
use Rattle.dfn.specs.Step as D
use Rattle.codec.specs.Words.{word_at}
use Rattle.cell_images.specs.Images.{cell_at}
use Rattle.electrolyte_images.specs.Images.{electrolyte_at}
use Rattle.dfn_images.specs.Images as I
use Rattle.cell_calls.specs.Steps as CS
use Rattle.dfn_calls.specs.Steps as PS
use Rattle.image_laws.specs.CellImages.{particle_in}
use Rattle.boundary.specs.Calls as B
use Rattle.image_laws.specs.DfnRuns.{dfn_step_refused}
use Rattle.image_laws.specs.AnswerLengths.{particle_step_length, electrolyte_step_length, dfn_step_length}
use Rattle.image_laws.specs.ReadBack.{particle_step_read_back, electrolyte_step_read_back, dfn_step_read_back}
use Rattle.boundary_laws.specs.CallLists.{Calls, CCall, image_after, accepted_calls, reported, well_formed_of, record_after, accepted, total, Implements, simulates, image_stays, plain_implements}
use Rattle.image_layout.specs.Layout.{cell_sub_steps, particle_bytes, electrolyte_bytes, cell_bytes, cell_step_bytes, dfn_bytes, dfn_step_bytes}

-- ---- the calls
-- of an electrolyte
pub record ElectrolyteCall : Type 0 where
  pub j_neg : Float
  pub j_pos : Float
  pub dt : Float
  pub temp : Float

-- of a Doyle-Fuller-Newman cell, which keeps the current: any 64 bits
pub record DfnCall : Type 0 where
  pub bits : ℕ
  pub dt : Float

abbrev pub current : DfnCall → Float
current q = f64 q.bits

-- ---- what C sees of a step, by the definitions that the contract of the call cites; and the step, by the definition that the contract of `step` cites
abbrev pub particle_steps : Calls particle_bytes particle_in PD.Call
particle_steps = record {
  formed = λ q a. eqb (length a) particle_bytes;
  returned = λ s q a. B.particle_return s q.flux q.dt q.temp (length a);
  left = λ s q a. B.particle_after s q.flux q.dt q.temp a;
  handed = λ s q a. eqb (B.particle_return s q.flux q.dt q.temp (length a)) 0;
  refusal = λ p q. (PD.answer p q).refusal;
  next = λ p q. (PD.answer p q).particle;
}

abbrev pub cell_steps : Calls cell_bytes cell_at SD.Call
cell_steps = record {
  formed = λ q a. eqb (length a) cell_step_bytes;
  returned = λ s q a. B.cell_return s q.current q.dt q.temp (length a);
  left = λ s q a. B.cell_after s q.current q.dt q.temp a;
  handed = λ s q a. eqb (B.cell_return s q.current q.dt q.temp (length a)) 0;
  refusal = λ c q. (SD.answer c q).refusal;
  next = λ c q. (SD.answer c q).solver;
}

abbrev pub electrolyte_steps : Calls electrolyte_bytes electrolyte_at ElectrolyteCall
electrolyte_steps = record {
  formed = λ q a. eqb (length a) electrolyte_bytes;
  returned = λ s q a. B.electrolyte_return s q.j_neg q.j_pos q.dt q.temp (length a);
  left = λ s q a. B.electrolyte_after s q.j_neg q.j_pos q.dt q.temp a;
  handed = λ s q a. eqb (B.electrolyte_return s q.j_neg q.j_pos q.dt q.temp (length a)) 0;
  refusal = λ e q. (E.stepped e q.j_neg q.j_pos q.dt q.temp).refusal;
  next = λ e q. (E.stepped e q.j_neg q.j_pos q.dt q.temp).state;
}

abbrev pub dfn_steps : Calls dfn_bytes I.cell_at DfnCall
dfn_steps = record {
  formed = λ q a. eqb (length a) dfn_step_bytes;
  returned = λ s q a. B.dfn_return s (current q) q.dt (length a);
  left = λ s q a. B.dfn_after s (current q) q.dt a;
  handed = λ s q a. eqb (B.dfn_return s (current q) q.dt (length a)) 0;
  refusal = λ d q. (D.stepped d (current q) q.dt).refusal;
  next = λ d q. (D.stepped d (current q) q.dt).cell;
}

-- ---- each of them implements its step
-- an answer that is an image
pub whole : (n : ℕ) (a : List ℕ) → length a ≡ n → take n a ≡ a
whole n a l = take_all n a (rw l (le_refl n))

positive : (k : ℕ) → (k ≡ 0 → ⊥) → 0 < k
positive zero n = absurd (n refl)
positive (suc k) n = zero-lt-suc k

particle_returned : (s : List ℕ) (q : PD.Call) (a : List ℕ) → length s ≡ particle_bytes → particle_steps.returned s q a ≡ B.after_lengths (eqb (length a) particle_bytes) (PD.answer (particle_in s) q).refusal
unfolding B.particle_return CS.particle_return
particle_returned s q a l = rw (eq-eqb (length s) particle_bytes l)

pub particle_steps_implement : Implements particle_steps
particle_steps_implement =
    plain_implements particle_steps
    (record {
      returned_is = particle_returned;
      handed_is = λ s q a. refl;
      accepted_reads = λ s q a h.
          ap particle_in (whole particle_bytes (particle_steps.left s q a) (particle_step_length s q.flux q.dt q.temp a h)) ∙ particle_step_read_back s q.flux q.dt q.temp a h;
      accepted_fills = λ s q a h.
          let l = particle_step_length s q.flux q.dt q.temp a h in
          ap length (whole particle_bytes (particle_steps.left s q a) l) ∙ l;
      refused_keeps = λ p q n. PC.step_refused p q.flux q.dt q.temp n;
    })

electrolyte_returned : (s : List ℕ) (q : ElectrolyteCall) (a : List ℕ) → length s ≡ electrolyte_bytes
    → electrolyte_steps.returned s q a ≡ B.after_lengths (eqb (length a) electrolyte_bytes) (electrolyte_steps.refusal (electrolyte_at s) q)
unfolding B.electrolyte_return PS.electrolyte_return
electrolyte_returned s q a l = rw (eq-eqb (length s) electrolyte_bytes l)

pub electrolyte_steps_implement : Implements electrolyte_steps
electrolyte_steps_implement =
    plain_implements electrolyte_steps
    (record {
      returned_is = electrolyte_returned;
      handed_is = λ s q a. refl;
      accepted_reads = λ s q a h.
          ap electrolyte_at (whole electrolyte_bytes (electrolyte_steps.left s q a) (electrolyte_step_length s q.j_neg q.j_pos q.dt q.temp a h))
          ∙ electrolyte_step_read_back s q.j_neg q.j_pos q.dt q.temp a h;
      accepted_fills = λ s q a h.
          let l = electrolyte_step_length s q.j_neg q.j_pos q.dt q.temp a h in
          ap length (whole electrolyte_bytes (electrolyte_steps.left s q a) l) ∙ l;
      refused_keeps = λ e q n. step_kept e q.j_neg q.j_pos q.dt q.temp (positive _ n);
    })

dfn_returned : (s : List ℕ) (q : DfnCall) (a : List ℕ) → length s ≡ dfn_bytes → dfn_steps.returned s q a ≡ B.after_lengths (eqb (length a) dfn_step_bytes) (dfn_steps.refusal (I.cell_at s) q)
unfolding B.dfn_return PS.dfn_return
dfn_returned s q a l = rw (eq-eqb (length s) dfn_bytes l)

pub dfn_steps_implement : Implements dfn_steps
dfn_steps_implement =
    plain_implements dfn_steps
    (record {
      returned_is = dfn_returned;
      handed_is = λ s q a. refl;
      accepted_reads = λ s q a h. dfn_step_read_back s q.bits q.dt a h;
      accepted_fills = λ s q a h. length-take-le dfn_bytes (dfn_steps.left s q a) (rw (dfn_step_length s q.bits q.dt a h) (lit≤ tt));
      refused_keeps = λ d q n. dfn_step_refused d (current q) q.dt n;
    })

-- ---- particles and cells: the folds are those of theorems 1 to 3
particle_after_lem : (p : ParticleDiffusion) (qs : List PD.Call) (r : ParticleDiffusion) → record_after particle_steps r qs ≡ DF.after (PD.steps p) r qs
unfolding record_after DF.after
particle_after_lem p [] r = refl
particle_after_lem p (q ∷ qs) r = particle_after_lem p qs (PD.answer r q).particle

particle_accepted : (p : ParticleDiffusion) (qs : List PD.Call) (r : ParticleDiffusion) → accepted particle_steps r qs ≡ DF.accepted (PD.steps p) r qs
unfolding accepted DF.accepted
particle_accepted p [] r = refl
particle_accepted p (q ∷ qs) r = rw (particle_accepted p qs (PD.answer r q).particle)

pub record ParticleSimulates (s : List ℕ) (qs : List (CCall PD.Call)) : Type 0 where
  pub particle : particle_in (image_after particle_steps s qs) ≡ DF.after (PD.steps (particle_in s)) (particle_in s) (well_formed_of particle_steps qs)
  pub size : length (image_after particle_steps s qs) ≡ particle_bytes
  pub calls : accepted_calls particle_steps s qs ≡ PD.taken (particle_in s) (well_formed_of particle_steps qs)

-- THE PARTICLE OF THE LAST IMAGE is the particle after the same steps
pub particle_simulates : (qs : List (CCall PD.Call)) (s : List ℕ) → length s ≡ particle_bytes → ParticleSimulates s qs
particle_simulates qs s l =
    let f = simulates particle_steps particle_steps_implement qs s l in
    let p = particle_in s in
    let w = well_formed_of particle_steps qs in
    record { particle = f.reads ∙ particle_after_lem p w p; size = f.fills; calls = f.calls ∙ particle_accepted p w p }

pub cell_after_lem : (qs : List SD.Call) (c : SpmSolver) → record_after cell_steps c qs ≡ SD.cell_after c qs
unfolding record_after SD.cell_after
cell_after_lem [] c = refl
cell_after_lem (q ∷ qs) c = cell_after_lem qs (SD.answer c q).solver

pub cell_accepted : (qs : List SD.Call) (c : SpmSolver) → accepted cell_steps c qs ≡ SD.taken c qs
unfolding accepted SD.taken
cell_accepted [] c = refl
cell_accepted (q ∷ qs) c = rw (cell_accepted qs (SD.answer c q).solver)

abbrev pub sub_steps_value : SpmSolver → SD.Call → ℕ
sub_steps_value c q = (SD.answer c q).sub_steps

pub cell_total : (qs : List SD.Call) (c : SpmSolver) → total cell_steps sub_steps_value c qs ≡ SD.K c qs
unfolding total SD.K
cell_total [] c = refl
cell_total (q ∷ qs) c = rw (cell_total qs (SD.answer c q).solver)

-- the sub-steps that the answers report
abbrev pub reported_sub_steps : List ℕ → List (CCall SD.Call) → ℕ
reported_sub_steps s qs = reported cell_steps (λ a. word_at a cell_sub_steps) s qs

pub record CellSimulates (s : List ℕ) (qs : List (CCall SD.Call)) : Type 0 where
  pub cell : cell_at (image_after cell_steps s qs) ≡ SD.cell_after (cell_at s) (well_formed_of cell_steps qs)
  pub size : length (image_after cell_steps s qs) ≡ cell_bytes
  pub calls : accepted_calls cell_steps s qs ≡ SD.taken (cell_at s) (well_formed_of cell_steps qs)
  pub count : reported_sub_steps s qs ≡ SD.K (cell_at s) (well_formed_of cell_steps qs)

-- ---- on an image of another length every call is refused, and the image stays
particle_refused : (s : List ℕ) (q : PD.Call) (a : List ℕ) → eqb (length s) particle_bytes ≡ false → particle_steps.handed s q a ≡ false
unfolding B.particle_return B.after_lengths
particle_refused s q a n = rw n

pub particle_image_stays : (qs : List (CCall PD.Call)) (s : List ℕ) → eqb (length s) particle_bytes ≡ false → image_after particle_steps s qs ≡ s
particle_image_stays = image_stays particle_steps particle_refused
