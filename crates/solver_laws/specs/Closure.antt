-- What a step of the cell leads to: an accepted one to a cell that passes the checks again, a refused one to the cell as it was. Assumes nothing.
use Prim.Native.Nat.{ℕ, zero, suc, ◌≤◌}
use Rattle.std.specs.Prelude.{◌^◌, ◌≡◌, Bool, cond, ◌&&◌, List, [], ◌∷◌, eqb, Float, get_or}
use Rattle.std.proofs.Math.Path.{refl}
use Rattle.std.proofs.Common.{sym, subst, arith}
use Rattle.std.proofs.Math.Bool.{true, false}
use Rattle.std.proofs.Math.Dec.{T, eqb-suc-zero}
use Rattle.std.specs.Float.{nan}
use Rattle.std.specs.Float.Ieee.{le}
use Rattle.std.specs.Float.Ieee.Bits.{is_true}
use Rattle.std.specs.Float.Ieee.Fits.{and_l, and_r, and_i}
use Rattle.fraction.proofs.Field.{≈F-sym, ≤F-of-≈F, ≤F-trans}
use Rattle.fraction.proofs.Certificate.{quote}
use Rattle.fraction.proofs.Certificate.{le_by, ◌⊞◌}
use Rattle.binary64.specs.Operators.{◌⊕◌, ◌⊘◌, count}
use Rattle.binary64.proofs.OrderLaws.{rounds_nonneg}
use Rattle.binary64.proofs.Rounds.{add_rounds}
use Rattle.binary64.specs.Value.{val}
use Rattle.binary64.proofs.Value.{le_val, val_le}
use Rattle.binary64.specs.Literals.{«0·0»}
use Rattle.refusal.specs.Numbers.{first_refusal, refusal_unless, not_finite_of}
use Rattle.refusal.specs.Ranges.{finite, clock_fits}
use Rattle.iterate.specs.Iterate.{times}
use Rattle.diffusion.specs.SubStep.{sub_step}
use Rattle.diffusion.specs.Premises.{zero_fine, zero_val}
use Rattle.diffusion.proofs.Profile as Profile
use Rattle.profile.specs.Places.{finite_profile}
use Rattle.particle.specs.declared.ParticleDiffusion.{ParticleDiffusion}
use Rattle.particle.specs.Checks.{fields_fit_of, particle_refusal, fields_of}
use Rattle.particle.specs.Particle.{with_profile, sub_step_params_of}
use Rattle.particle_laws.specs.Ranges.{Ranged, nodes_passed, sheet_passed}
use Rattle.particle_laws.specs.Checked.{unused_passed, particle_in_range, particle_passes}
use Rattle.particle_laws.specs.Nodes.{node_in}
use Rattle.kinetics.specs.Kinetics.{config_fits}
use Rattle.solver.specs.declared.SpmSolver.{SpmSolver}
use Rattle.solver_step.specs.declared.report.SpmState.{SpmState}
use Rattle.solver.specs.Answers.{SpmStepAnswer}
use Rattle.solver_step.specs.declared.plan.Plan.{Plan}
use Rattle.solver.specs.Cell.{grid_fits, cell_refusal}
use Rattle.solver_step.specs.Plans.{plan_refusal, sub_steps_of}
use Rattle.solver_step.specs.Moves.{profile_after, finite_on}
use Rattle.solver.specs.Step.{input_refusal, plan_of, advanced, reported, finite_step, refused_step, finished, planned, stepped}
use Rattle.binary64.specs.Range.{Sized}
use Rattle.solver_laws.specs.Electrodes.{Electrode, particle_at, diffusivity_in, flux_in, config_passed, clock_passed, electrode_passes, grid_passed, count_most, cell_passed, interval_size, current_fits_lem, fluxes_range, sub_step_ranged_by}

-- ---- sub-steps lead from a particle that passes to one that does
sub_step_passes : (p : ParticleDiffusion) (c : List Float) (d j dt : Float) → Ranged (sub_step_params_of p d j dt) → particle_refusal (with_profile p c) ≡ 0 → particle_refusal (with_profile p (sub_step (sub_step_params_of p d j dt) c)) ≡ 0
sub_step_passes p c d j dt r h =
    let q = with_profile p c in
    let v = sub_step_params_of p d j dt in
    let w = particle_in_range q h in
    particle_passes (with_profile p (sub_step v c)) (nodes_passed q h) (sheet_passed q h)
    (λ i l. rw (Profile.step_place v c i l w.long) (node_in v r (λ k. get_or c k nan) w.nodes i l))
    (λ i l m. rw (Profile.step_unused v c i nan l) (unused_passed q h i l m))

times_passes : (p : ParticleDiffusion) (d j dt : Float) → Ranged (sub_step_params_of p d j dt) → particle_refusal p ≡ 0 → (k : ℕ) → particle_refusal (with_profile p (times k (sub_step (sub_step_params_of p d j dt)) p.c_s)) ≡ 0
unfolding times
times_passes p d j dt r h zero = h
times_passes p d j dt r h (suc k) = sub_step_passes p (times k (sub_step (sub_step_params_of p d j dt)) p.c_s) d j dt r (times_passes p d j dt r h k)

clock_reported : (s : SpmSolver) (r : SpmState) → T (finite_step s r) → T (finite r.time_s)
unfolding finite_step finite_on
clock_reported s r h =
    and_r (finite_profile s.anode.c_s && finite_profile s.cathode.c_s && finite r.voltage && finite r.theta_neg && finite r.theta_pos && finite r.theta_neg_avg && finite r.theta_pos_avg)
    (finite r.time_s) h

module _ (s : SpmSolver) (i dt t : Float) where
  abbrev pub plan : Plan
  plan = plan_of s i dt t

  abbrev pub next : SpmSolver
  next = advanced s plan dt

  abbrev pub report : SpmState
  report = reported next plan i t

  -- an electrode's particle after the step
  abbrev pub particle_next : Electrode → ParticleDiffusion
  particle_next e = with_profile (particle_at e s) (profile_after (particle_at e s) (diffusivity_in e plan) (flux_in e plan) dt (sub_steps_of plan))

  -- an electrode that takes a flux which is in its range passes
  pub moved_passes : input_refusal s i dt t ≡ 0 → plan_refusal plan ≡ 0 → (e : Electrode) (j : Float) → Sized j (2 ^ 100) 1
      → particle_refusal (with_profile (particle_at e s) (profile_after (particle_at e s) (diffusivity_in e plan) j dt (sub_steps_of plan))) ≡ 0
  unfolding profile_after times
  moved_passes h g e j m = go (sub_steps_of plan) (count_most plan g)
    where
      go : (k : ℕ) → k ≤ 4096 → particle_refusal (with_profile (particle_at e s) (times k (sub_step (sub_step_params_of (particle_at e s) (diffusivity_in e plan) j (dt ⊘ count k))) (particle_at e s).c_s)) ≡ 0
      go zero l = electrode_passes s (cell_passed s i dt t h) e
      go (suc k) l = times_passes (particle_at e s) (diffusivity_in e plan) j (dt ⊘ count (suc k)) (sub_step_ranged_by s i dt t h e j m k l) (electrode_passes s (cell_passed s i dt t h) e) (suc k)

  -- so both do after the step
  abbrev pub anode_after : ParticleDiffusion
  anode_after = with_profile s.anode (profile_after s.anode plan.d_neg plan.j_neg dt (sub_steps_of plan))

  abbrev pub cathode_after : ParticleDiffusion
  cathode_after = with_profile s.cathode (profile_after s.cathode plan.d_pos plan.j_pos dt (sub_steps_of plan))

  pub both_pass : input_refusal s i dt t ≡ 0 → plan_refusal plan ≡ 0 → (particle_refusal anode_after ≡ 0) × (particle_refusal cathode_after ≡ 0)
  both_pass h g =
      let f = fluxes_range s (cell_passed s i dt t h) i dt t (current_fits_lem s i dt t h) in
      (moved_passes h g Electrode.anode plan.j_neg f.0, moved_passes h g Electrode.cathode plan.j_pos f.1)

  -- the clock
  clock_next : input_refusal s i dt t ≡ 0 → T (finite (s.time_s ⊕ dt)) → T (clock_fits (s.time_s ⊕ dt))
  clock_next h f =
      let k = clock_passed s (cell_passed s i dt t h) in
      let a = and_l (finite s.time_s) (le «0·0» s.time_s) k in
      let b = ≤F-trans (≤F-of-≈F (≈F-sym zero_val)) (le_val «0·0» s.time_s zero_fine a (and_r (finite s.time_s) (le «0·0» s.time_s) k)) in
      let d = interval_size s i dt t h in
      let n = rounds_nonneg (add_rounds s.time_s dt a d.0.fine) f (le_by (val s.time_s ∷ val dt ∷ []) 0 (b ⊞ d.1) (search quote depth 24) tt) in
      and_i (finite (s.time_s ⊕ dt)) (le «0·0» (s.time_s ⊕ dt)) f (val_le «0·0» (s.time_s ⊕ dt) zero_fine f (≤F-trans (≤F-of-≈F zero_val) n))

  clock_finite : T (finite_step next report) → T (finite (s.time_s ⊕ dt))
  unfolding reported advanced
  clock_finite h = clock_reported next report h

  next_passes : input_refusal s i dt t ≡ 0 → plan_refusal plan ≡ 0 → T (finite_step next report) → cell_refusal next ≡ 0
  unfolding cell_refusal first_refusal refusal_unless advanced
  next_passes h g f =
      let k = cell_passed s i dt t h in
      let c = config_fits s.config in
      let a = fields_fit_of anode_after in
      let b = fields_fit_of cathode_after in
      let m = and_i (c && a && b) (clock_fits (s.time_s ⊕ dt)) (and_i (c && a) b (and_i c a (config_passed s k) (fields_of anode_after (both_pass h g).0)) (fields_of cathode_after (both_pass h g).1)) (clock_next h (clock_finite f)) in
      rw (is_true (grid_fits s) (grid_passed s k), is_true (c && a && b && clock_fits (s.time_s ⊕ dt)) m)

  -- what a step answers: a number and the cell as it was, or 0, the sub-steps of its plan and the cell advanced
  pub data Leads : SpmStepAnswer → Type 0 where
    refused : (k : ℕ) → Leads (refused_step (suc k) s)
    moved : input_refusal s i dt t ≡ 0 → plan_refusal plan ≡ 0 → T (finite_step next report) → Leads (record { refusal = 0; state = report; sub_steps = sub_steps_of plan; solver = next })

  pub leads : Leads (stepped s i dt t)
  unfolding stepped planned finished
  leads = input (input_refusal s i dt t) refl
    where
      end : (b : Bool) → finite_step next report ≡ b → input_refusal s i dt t ≡ 0 → plan_refusal plan ≡ 0
          → Leads (cond b (record { refusal = 0; state = report; sub_steps = sub_steps_of plan; solver = next }) (refused_step not_finite_of s))
      end true e h g = Leads.moved h g (subst T (sym e) tt)
      end false e h g = Leads.refused 7

      middle : (k : ℕ) → plan_refusal plan ≡ k → input_refusal s i dt t ≡ 0 → Leads (cond (eqb k 0) (finished s plan next report) (refused_step k s))
      middle zero g h = end (finite_step next report) refl h g
      middle (suc k) g h = rw (eqb-suc-zero k) (Leads.refused k)

      input : (k : ℕ) → input_refusal s i dt t ≡ k → Leads (cond (eqb k 0) (planned s plan i dt t) (refused_step k s))
      input zero h = middle (plan_refusal plan) refl h
      input (suc k) h = rw (eqb-suc-zero k) (Leads.refused k)

  -- accepted: nothing refuses it before it is made, nor its plan, and all that it gives is finite
  pub accepted_where : input_refusal s i dt t ≡ 0 → plan_refusal plan ≡ 0 → T (finite_step next report) → (stepped s i dt t).refusal ≡ 0
  unfolding stepped planned finished
  accepted_where h g f = rw (h, g, is_true (finite_step next report) f)

  -- A STEP THAT IS ACCEPTED leads to a cell that passes the checks
  pub step_passes : (stepped s i dt t).refusal ≡ 0 → cell_refusal (stepped s i dt t).solver ≡ 0
  step_passes = go (stepped s i dt t) leads
    where
      go : (a : SpmStepAnswer) → Leads a → a.refusal ≡ 0 → cell_refusal a.solver ≡ 0
      go a (Leads.refused k) z = absurd (omega (arith, z))
      go a (Leads.moved h g f) z = next_passes h g f

  -- and a cell that passes goes on passing, whatever the answer
  pub step_stays : cell_refusal s ≡ 0 → cell_refusal (stepped s i dt t).solver ≡ 0
  step_stays h = go (stepped s i dt t) leads
    where
      go : (a : SpmStepAnswer) → Leads a → cell_refusal a.solver ≡ 0
      go a (Leads.refused k) = h
      go a (Leads.moved h g f) = next_passes h g f

  -- with the count of its plan
  pub step_count : (stepped s i dt t).refusal ≡ 0 → (stepped s i dt t).sub_steps ≡ sub_steps_of plan
  step_count = go (stepped s i dt t) leads
    where
      go : (a : SpmStepAnswer) → Leads a → a.refusal ≡ 0 → a.sub_steps ≡ sub_steps_of plan
      go a (Leads.refused k) z = absurd (omega (arith, z))
      go a (Leads.moved h g f) z = refl

  -- and the clock raised once by dt
  clock_raised : next.time_s ≡ s.time_s ⊕ dt
  unfolding advanced
  clock_raised = refl

  pub step_clock : (stepped s i dt t).refusal ≡ 0 → (stepped s i dt t).solver.time_s ≡ s.time_s ⊕ dt
  step_clock = go (stepped s i dt t) leads
    where
      go : (a : SpmStepAnswer) → Leads a → a.refusal ≡ 0 → a.solver.time_s ≡ s.time_s ⊕ dt
      go a (Leads.refused k) z = absurd (omega (arith, z))
      go a (Leads.moved h g f) z = clock_raised

  -- A STEP THAT IS REFUSED leaves the cell as it is, bit for bit, and reports no sub-steps
  pub step_refused : ((stepped s i dt t).refusal ≡ 0 → ⊥) → ((stepped s i dt t).solver ≡ s) × ((stepped s i dt t).sub_steps ≡ 0)
  step_refused = go (stepped s i dt t) leads
    where
      go : (a : SpmStepAnswer) → Leads a → (a.refusal ≡ 0 → ⊥) → (a.solver ≡ s) × (a.sub_steps ≡ 0)
      go a (Leads.refused k) n = (refl, refl)
      go a (Leads.moved h g f) n = absurd (n refl)

-- what no call changes: the config, the sheets, the counts of nodes
pub record SameMake (s s' : SpmSolver) : Type 0 where
  pub config : s'.config ≡ s.config
  pub sheet : (e : Electrode) → (particle_at e s').params ≡ (particle_at e s).params
  pub nodes : (e : Electrode) → (particle_at e s').n_nodes ≡ (particle_at e s).n_nodes

next_make : (s : SpmSolver) (i dt t : Float) → SameMake s (next s i dt t)
unfolding advanced
next_make s i dt t = record { config = refl; sheet = λ e. sheets e; nodes = λ e. counts e }
  where
    sheets : (e : Electrode) → (particle_at e (next s i dt t)).params ≡ (particle_at e s).params
    sheets Electrode.anode = refl
    sheets Electrode.cathode = refl

    counts : (e : Electrode) → (particle_at e (next s i dt t)).n_nodes ≡ (particle_at e s).n_nodes
    counts Electrode.anode = refl
    counts Electrode.cathode = refl

pub step_make : (s : SpmSolver) (i dt t : Float) → SameMake s (stepped s i dt t).solver
step_make s i dt t = go (stepped s i dt t) (leads s i dt t)
  where
    go : (a : SpmStepAnswer) → Leads s i dt t a → SameMake s a.solver
    go a (Leads.refused k) = record { config = refl; sheet = λ e. refl; nodes = λ e. refl }
    go a (Leads.moved h g f) = next_make s i dt t
