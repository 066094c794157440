-- A particle or a cell of an image that passes the checks can be written into an image, and so can what a step makes of it. Assumes nothing.
use Rattle.std.specs.Prelude.{ℕ, zero, suc, ◌≤◌, ◌+◌, ◌≡◌, refl, Bool, true, false, cond, List, T, eqb, leb, length, get_or, Float}
use Rattle.std.proofs.Common.{sym, subst, ◌∙◌, arith, leb→le}
use Rattle.std.specs.Float.{nan, binary64}
use Rattle.std.specs.Float.Ieee.{fits, lt}
use Rattle.std.specs.Float.Ieee.Bits.{of_bits-fits}
use Rattle.std.specs.Float.Ieee.Fits.{add-fits, cond-fits}
use Rattle.matrix_rows.specs.Loops.{either}
use Rattle.binary64.specs.Operators.{◌⊕◌, ◌⊗◌, ◌⊘◌, count}
use Rattle.binary64.specs.Literals.{«0·0»}
use Rattle.refusal.specs.Numbers.{not_finite_of}
use Rattle.iterate.specs.Iterate.{times, first_length, first_by}
use Rattle.electrode.specs.Sheet.{sheet_fits, diffusivity_at}
use Rattle.electrode.specs.declared.ElectrodeParams.{ElectrodeParams}
use Rattle.diffusion.specs.SubStep.{SubStepParams, rate, node, sub_step}
use Rattle.profile.specs.Places.{finite_profile}
use Rattle.particle.specs.declared.ParticleDiffusion.{ParticleDiffusion}
use Rattle.particle.specs.Answers.{ParticleAnswer}
use Rattle.particle.specs.Checks.{particle_refusal, nodes_of}
use Rattle.particle.specs.Particle.{with_profile, sub_step_params_of}
use Rattle.particle.specs.Calls as P
use Rattle.particle_laws.specs.Ranges.{sheet_passed}
use Rattle.solver.specs.declared.SpmSolver.{SpmSolver}
use Rattle.solver.specs.Answers.{SpmStepAnswer}
use Rattle.solver.specs.Cell.{cell_refusal}
use Rattle.solver.specs.Step as S
use Rattle.solver_step.specs.Moves.{profile_after}
use Rattle.solver_laws.specs.Electrodes.{Electrode, electrode_passes, nodes_are}
use Rattle.solver_laws.specs.Closure.{Leads, leads, next}
use Rattle.electrode.specs.Numbers.{sheet_of, sheet_numbers}
use Rattle.sheet_images.specs.Images.{sheet_at, particle_at, config_at}
use Rattle.cell_images.specs.Images.{cell_at}
use Rattle.image_laws.specs.Accepted.{accepted}
use Rattle.image_laws.specs.Encodable.{EncodableRow, []ᵉ, ◌∷ᵉ◌, first_encodable, float_encodable, places_encodable, places_count}
use Rattle.image_laws.specs.CellImages.{EncodableSheet, EncodableParticle, config_numbers, EncodableCell}
use Rattle.image_layout.specs.Layout.{particle_profile, cell_anode, cell_cathode, cell_clock}

-- ---- what is read
-- the chemistry of a sheet that fits
chemistry_most : (p : ElectrodeParams) → T (sheet_fits p) → p.electrode_type ≤ 3
chemistry_most p t = go (leb 1 p.electrode_type) (leb p.electrode_type 3) refl refl
  where
    go : (a b : Bool) → leb 1 p.electrode_type ≡ a → leb p.electrode_type 3 ≡ b → p.electrode_type ≤ 3
    go a true d e = leb→le p.electrode_type 3 (subst T (sym e) tt)
    go true false d e = absurd (rw (d, e) at t)
    go false false d e = absurd (rw d at t)

pub sheet_at-row : (s : List ℕ) (at : ℕ) → EncodableRow (sheet_numbers (sheet_at s at))
unfolding sheet_at sheet_of first_by
sheet_at-row s at = places_encodable 10 s (at + 1)

pub sheet_encodable : (p : ElectrodeParams) → T (sheet_fits p) → EncodableRow (sheet_numbers p) → EncodableSheet p
sheet_encodable p t h = let m = chemistry_most p t in record { chemistry = omega (arith, m); numbers = h }

-- a particle of an image that passes the checks
pub particle_at-encodable : (s : List ℕ) (at : ℕ) → particle_refusal (particle_at s at) ≡ 0 → EncodableParticle (particle_at s at)
unfolding particle_at
particle_at-encodable s at h =
    let n = nodes_of (particle_at s at) h in
    record {
      sheet = sheet_encodable (sheet_at s at) (sheet_passed (particle_at s at) h) (sheet_at-row s at);
      nodes = omega (arith, n.1);
      long = places_count 64 s (at + particle_profile);
      places = places_encodable 64 s (at + particle_profile);
    }

pub config_at-row : (s : List ℕ) → EncodableRow (config_numbers (config_at s))
unfolding config_at
config_at-row s = float_encodable s 1 ∷ᵉ float_encodable s 2 ∷ᵉ float_encodable s 3 ∷ᵉ float_encodable s 4 ∷ᵉ float_encodable s 5 ∷ᵉ []ᵉ

-- A CELL OF AN IMAGE that passes the checks
pub cell_at-encodable : (s : List ℕ) → cell_refusal (cell_at s) ≡ 0 → EncodableCell (cell_at s)
unfolding cell_at
cell_at-encodable s h =
    let a = electrode_passes (cell_at s) h Electrode.anode in
    let c = electrode_passes (cell_at s) h Electrode.cathode in
    let n : (config_at s).n_nodes ≤ 64 = subst (λ (k : ℕ). k ≤ 64) (nodes_are (cell_at s) h Electrode.anode) (nodes_of (particle_at s cell_anode) a).1 in
    record { config = record { nodes = omega (arith, n); numbers = config_at-row s }; anode = particle_at-encodable s cell_anode a; cathode = particle_at-encodable s cell_cathode c; clock = float_encodable s cell_clock }

-- ---- what a step makes: each new place is a sum or one of the two bounds
node_encodable : (v : SubStepParams) → T (fits binary64 v.c_max) → (c : ℕ → Float) (i : ℕ) → T (fits binary64 (node v c i))
unfolding node
node_encodable v f c i =
    let x = c i ⊕ v.dt ⊗ rate v c i in
    let y = cond (lt x «0·0») «0·0» x in
    cond-fits binary64 (lt v.c_max y) v.c_max y f (cond-fits binary64 (lt x «0·0») «0·0» x (of_bits-fits binary64 0) (add-fits binary64 (c i) (v.dt ⊗ rate v c i)))

step_row : (v : SubStepParams) → T (fits binary64 v.c_max) → (c : List Float) → EncodableRow c → EncodableRow (sub_step v c)
unfolding sub_step
step_row v f c h = first_encodable v.n (node v (λ i. get_or c i nan)) c (node_encodable v f (λ i. get_or c i nan)) h

step_long : (v : SubStepParams) (c : List Float) → length (sub_step v c) ≡ length c
unfolding sub_step
step_long v c = first_length (node v (λ i. get_or c i nan)) c v.n

sub_step_encodable : (p : ParticleDiffusion) (c : List Float) (d j dt : Float) → EncodableParticle (with_profile p c) → EncodableParticle (with_profile p (sub_step (sub_step_params_of p d j dt) c))
sub_step_encodable p c d j dt h = record {
  sheet = h.sheet;
  nodes = h.nodes;
  long = step_long (sub_step_params_of p d j dt) c ∙ h.long;
  places = step_row (sub_step_params_of p d j dt) (h.sheet.numbers.place 2) c h.places;
}

times_encodable : (k : ℕ) (p : ParticleDiffusion) (d j dt : Float) → EncodableParticle p → EncodableParticle (with_profile p (times k (sub_step (sub_step_params_of p d j dt)) p.c_s))
unfolding times
times_encodable zero p d j dt h = h
times_encodable (suc k) p d j dt h = sub_step_encodable p (times k (sub_step (sub_step_params_of p d j dt)) p.c_s) d j dt (times_encodable k p d j dt h)

profile_encodable : (p : ParticleDiffusion) (d j dt : Float) (k : ℕ) → EncodableParticle p → EncodableParticle (with_profile p (profile_after p d j dt k))
unfolding profile_after
profile_encodable p d j dt k h = times_encodable k p d j (dt ⊘ count k) h

next_encodable : (s : SpmSolver) (i dt t : Float) → EncodableCell s → EncodableCell (next s i dt t)
unfolding S.advanced
next_encodable s i dt t h = record {
  config = h.config;
  anode = profile_encodable s.anode _ _ dt _ h.anode;
  cathode = profile_encodable s.cathode _ _ dt _ h.cathode;
  clock = add-fits binary64 s.time_s dt;
}

-- A STEP leads from a cell that an image can hold to one that it can hold, refused or not
pub step_encodable : (s : SpmSolver) (i dt t : Float) → EncodableCell s → EncodableCell (S.stepped s i dt t).solver
step_encodable s i dt t h = go (S.stepped s i dt t) (leads s i dt t)
  where
    go : (a : SpmStepAnswer) → Leads s i dt t a → EncodableCell a.solver
    go a (Leads.refused k) = h
    go a (Leads.moved g p f) = next_encodable s i dt t h

-- so does a particle's step
accepted_encodable : (p : ParticleDiffusion) (c : List Float) → EncodableParticle (with_profile p c) → EncodableParticle p → EncodableParticle (P.accepted p c).particle
unfolding P.accepted
accepted_encodable p c h k = either (λ (a : ParticleAnswer). EncodableParticle a.particle) (finite_profile c) (P.particle_answer 0 (with_profile p c)) (P.particle_answer not_finite_of p) h k

pub particle_step_encodable : (p : ParticleDiffusion) (j dt t : Float) → EncodableParticle p → EncodableParticle (P.stepped p j dt t).particle
unfolding P.stepped
particle_step_encodable p j dt t h =
    let c = sub_step (sub_step_params_of p (diffusivity_at p.params t) j dt) p.c_s in
    either (λ (a : ParticleAnswer). EncodableParticle a.particle) (eqb (P.step_refusal p j dt t) 0) (P.accepted p c) (P.particle_answer (P.step_refusal p j dt t) p)
    (accepted_encodable p c (sub_step_encodable p p.c_s (diffusivity_at p.params t) j dt h) h) h
