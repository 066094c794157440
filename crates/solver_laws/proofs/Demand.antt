-- THEOREM 2 of the third demand (`SolverNear`, specs/Demand), and how the folds go on at a call. Assumes nothing.
use Rattle.std.specs.Prelude.{ℕ, zero, suc, ◌<◌, ◌≤◌, ◌≡◌, cond, T, eqb, length, get_or, replicate}
use Rattle.std.proofs.Math.Path.{refl, sym}
use Rattle.std.proofs.Common.{ap, ◌∙◌, subst, zero-add, eqb→eq}
use mathlib.Core.List.{List, [], ◌∷◌, map}
use borrow.Author.Tests.{eq-eqb, ne_eqb}
use Rattle.std.proofs.Math.Dec.{eqb-suc-zero}
use Rattle.std.proofs.lemmas.List.{length-replicate}
use Rattle.fraction.specs.Fraction.{Fraction, nat, pow2, ◌-F◌, ◌*F◌, ◌/F◌, ◌within◌}
use Rattle.binary64.specs.Operators.{◌⊘◌, count}
use Rattle.binary64.specs.Value.{val}
use Rattle.diffusion.specs.Exact.{numbers}
use Rattle.diffusion.specs.Premises.{TimeStepBound, FluxBound, StepConditions, ParametersInRange, ProfileInRange}
use Rattle.diffusion.specs.Run.{Grid, sub_step_params, run, Each}
use Rattle.diffusion.specs.Calls.{after, accepted, total, exact_after, Lawful}
use Rattle.diffusion.proofs.CallLaws.{calls_near, of_accepted}
use Rattle.diffusion.proofs.CallLaws.{each_with}
use Rattle.diffusion.proofs.Copies.{run_times, each_copies}
use Rattle.particle_laws.specs.Ranges.{ranged_parameters}
use Rattle.particle_laws.specs.Checked.{particle_in_range}
use Rattle.solver.specs.declared.SpmSolver.{SpmSolver}
use Rattle.solver.specs.Answers.{SpmStepAnswer}
use Rattle.solver_step.specs.declared.plan.Plan.{Plan}
use Rattle.solver_step.specs.Plans.{sub_steps_of}
use Rattle.solver_step.specs.Moves.{profile_after}
use Rattle.solver.specs.Step.{input_refusal, advanced}
use Rattle.solver_laws.specs.Electrodes.{Electrode, particle_at, diffusivity_in, flux_in, electrode_passes, count_most}
use Rattle.solver_laws.specs.Closure.{Leads, leads, step_refused, next}
use Rattle.solver_laws.specs.Demand.{Call, answer, cell_after, taken, K, plan_for, move_by, moves_by, grid_at, steps, numbers_at, place, Inv, itself, stays, same_plan, same_grid, same_numbers, accepted_stable, SolverNear, Accepted, Refused}
use Rattle.solver_laws.proofs.Electrodes.{sub_step_ranged}

-- ---- what is to be shown of an electrode
module _ (e : Electrode) (s : SpmSolver) where
  -- the profile of the advanced cell is that of a list of sub-steps
  next_profile : (f : Electrode) (r : SpmSolver) (q : Call) → (particle_at f (next r q.current q.dt q.temp)).c_s ≡ run (grid_at f r) (moves_by f (plan_for r q) q.dt) (particle_at f r).c_s
  unfolding advanced profile_after
  next_profile Electrode.anode r q = sym (run_times (grid_at Electrode.anode r) (move_by Electrode.anode (plan_for r q) q.dt) (sub_steps_of (plan_for r q)) r.anode.c_s)
  next_profile Electrode.cathode r q = sym (run_times (grid_at Electrode.cathode r) (move_by Electrode.cathode (plan_for r q) q.dt) (sub_steps_of (plan_for r q)) r.cathode.c_s)

  law : (r : SpmSolver) (q : Call) → Inv s r
      → (particle_at e (answer r q).solver).c_s ≡ cond (eqb (answer r q).refusal 0) (run (grid_at e s) (moves_by e (plan_for s q) q.dt) (particle_at e r).c_s) (particle_at e r).c_s
  law r q v = go (answer r q) (leads r q.current q.dt q.temp)
    where
      go : (a : SpmStepAnswer) → Leads r q.current q.dt q.temp a
          → (particle_at e a.solver).c_s ≡ cond (eqb a.refusal 0) (run (grid_at e s) (moves_by e (plan_for s q) q.dt) (particle_at e r).c_s) (particle_at e r).c_s
      go a (Leads.refused k) = rw (eqb-suc-zero k)
      go a (Leads.moved h g f) =
          next_profile e r q ∙ ap (λ (p : Plan). run (grid_at e r) (moves_by e p q.dt) (particle_at e r).c_s) (same_plan s r q v.make)
          ∙ ap (λ (b : Grid). run b (moves_by e (plan_for s q) q.dt) (particle_at e r).c_s) (same_grid e s r v.make)

  ranges : (r : SpmSolver) (q : Call) → Inv s r → T (eqb (answer r q).refusal 0) → Each (λ m. ParametersInRange (sub_step_params (grid_at e s) m)) (moves_by e (plan_for s q) q.dt)
  ranges r q v = go (answer r q) (leads r q.current q.dt q.temp)
    where
      copies : input_refusal r q.current q.dt q.temp ≡ 0 → (k : ℕ) → k ≤ 4096
          → Each (λ m. ParametersInRange (sub_step_params (grid_at e r) m)) (replicate k (record { d_s = diffusivity_in e (plan_for r q); j_n = flux_in e (plan_for r q); dt = q.dt ⊘ count k }))
      copies h zero l = Each.none
      copies h (suc k) l = each_copies (λ m. ParametersInRange (sub_step_params (grid_at e r) m)) (record { d_s = diffusivity_in e (plan_for r q); j_n = flux_in e (plan_for r q); dt = q.dt ⊘ count (suc k) }) (suc k) (ranged_parameters (sub_step_ranged r q.current q.dt q.temp h e k l))

      go : (a : SpmStepAnswer) → Leads r q.current q.dt q.temp a → T (eqb a.refusal 0) → Each (λ m. ParametersInRange (sub_step_params (grid_at e s) m)) (moves_by e (plan_for s q) q.dt)
      go a (Leads.refused k) t = absurd (subst T (eqb-suc-zero k) t)
      go a (Leads.moved h g f) t =
          subst (λ (b : Grid). Each (λ m. ParametersInRange (sub_step_params b m)) (moves_by e (plan_for s q) q.dt)) (same_grid e s r v.make)
          (subst (λ (p : Plan). Each (λ m. ParametersInRange (sub_step_params (grid_at e r) m)) (moves_by e p q.dt)) (same_plan s r q v.make) (copies h (sub_steps_of (plan_for r q)) (count_most (plan_for r q) g)))

  pub lawful : Lawful (steps e s) (Inv s)
  lawful = record { stays = stays s; law = law; ranges = ranges }

  -- ---- the folds above are those of the stepper
  pub after_is : (qs : List Call) (r : SpmSolver) → after (steps e s) r qs ≡ cell_after r qs
  unfolding after cell_after
  after_is [] r = refl
  after_is (q ∷ qs) r = after_is qs (answer r q).solver

  pub taken_is : (qs : List Call) (r : SpmSolver) → accepted (steps e s) r qs ≡ taken r qs
  unfolding accepted taken
  taken_is [] r = refl
  taken_is (q ∷ qs) r = rw (taken_is qs (answer r q).solver)

  reported_count : (r : SpmSolver) (q : Call) → Inv s r → cond (eqb (answer r q).refusal 0) (length (moves_by e (plan_for s q) q.dt)) 0 ≡ (answer r q).sub_steps
  reported_count r q v = go (answer r q) (leads r q.current q.dt q.temp)
    where
      go : (a : SpmStepAnswer) → Leads r q.current q.dt q.temp a → cond (eqb a.refusal 0) (length (moves_by e (plan_for s q) q.dt)) 0 ≡ a.sub_steps
      go a (Leads.refused k) = rw (eqb-suc-zero k)
      go a (Leads.moved h g f) = length-replicate (sub_steps_of (plan_for s q)) (move_by e (plan_for s q) q.dt) ∙ ap sub_steps_of (sym (same_plan s r q v.make))

  pub total_is : (qs : List Call) (r : SpmSolver) → Inv s r → total (steps e s) r qs ≡ K r qs
  unfolding total K
  total_is [] r v = refl
  total_is (q ∷ qs) r v = rw (reported_count r q v, total_is qs (answer r q).solver (stays s r q v))

  -- from a cell in the middle of the list too
  module _ (r : SpmSolver) (qs : List Call) (v : Inv s r) where
    -- with the bound on the flux the accepted calls keep both conditions
    pub conditions_hold : Each (λ q. FluxBound (numbers_at e s q)) (taken r qs) → Each (λ q. StepConditions (numbers_at e s q)) (taken r qs)
    conditions_hold =
        each_with (λ q a b. record { stable = a; flux_bound = b })
        (rw (← taken_is qs r) (of_accepted (steps e s) lawful (λ q. TimeStepBound (numbers_at e s q))
        (λ r q v t. subst TimeStepBound (same_numbers e s r q v.make) (accepted_stable e r q (eqb→eq (answer r q).refusal 0 t))) qs r v))

    pub keeps : Each (λ q. StepConditions (numbers_at e s q)) (taken r qs) → Each (λ q. Each (λ m. StepConditions (numbers (sub_step_params (grid_at e s) m))) (moves_by e (plan_for s q) q.dt)) (accepted (steps e s) r qs)
    keeps ks = rw (taken_is qs r) (each_with (λ q k k'. each_copies (λ m. StepConditions (numbers (sub_step_params (grid_at e s) m))) (move_by e (plan_for s q) q.dt) (sub_steps_of (plan_for s q)) k) ks ks)

    pub in_range_lem : ProfileInRange (particle_at e s).n_nodes (val (particle_at e s).params.c_s_max) (particle_at e r).c_s
    in_range_lem = subst (λ (b : Grid). ProfileInRange b.n (val b.c_max) (particle_at e r).c_s) (same_grid e s r v.make) (particle_in_range (particle_at e r) (electrode_passes r v.passes e))

    pub near_from : Each (λ q. StepConditions (numbers_at e s q)) (taken r qs) → (i : ℕ) → i < (particle_at e s).n_nodes
        → place e r qs i -F get_or (exact_after (steps e s) r qs (map val (particle_at e r).c_s)) i (nat 0) within nat (K r qs) *F val (particle_at e s).params.c_s_max /F pow2 49
    near_from ks i l = rw (← after_is qs r, ← total_is qs r v) (calls_near (steps e s) lawful r qs v in_range_lem (keeps ks) i l)

-- THEOREM 2
pub solver_near : SolverNear
solver_near e s qs h bs i l = let v = itself s h in near_from e s s qs v (conditions_hold e s s qs v bs) i l

-- ---- how the folds go on at a call, from a cell r in the middle of the list
module _ (e : Electrode) (s r : SpmSolver) (q : Call) (qs : List Call) (x : List Fraction) where
  pub at_accepted : (answer r q).refusal ≡ 0 → Accepted e s r q qs x
  unfolding cell_after exact_after taken K
  at_accepted h = let t = eq-eqb (answer r q).refusal 0 h in record { cell = refl; exact = rw t; calls = rw t; count = refl }

  pub at_refused : ((answer r q).refusal ≡ 0 → ⊥) → Refused e s r q qs x
  unfolding cell_after exact_after taken K
  at_refused n =
      let t = ne_eqb (answer r q).refusal 0 n in
      let z = step_refused r q.current q.dt q.temp n in
      record { cell = rw z.0; exact = rw (t, z.0); calls = rw (t, z.0); count = rw (z.0, z.1) (zero-add (K r qs)) }
