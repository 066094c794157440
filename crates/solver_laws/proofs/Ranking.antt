-- THEOREM 3 of the third demand (`SolverRanking`, specs/Ranking). Assumes nothing.
use Rattle.std.specs.Prelude.{ℕ, ◌^◌, ◌<◌, ◌≡◌, List, [], ◌∷◌, map, T, eqb, Float, get_or, replicate}
use Rattle.std.proofs.Common.{sym, ap, ◌∙◌, subst}
use Rattle.std.proofs.Math.Dec.{eqb-suc-zero}
use Rattle.std.proofs.lemmas.List.{length-map}
use Rattle.fraction.specs.Fraction.{nat, pow2, ◌+F◌, ◌-F◌, ◌*F◌, ◌/F◌, ◌≤F◌, ◌within◌}
use Rattle.fraction.proofs.Field.{≈F-sym, ≤F-of-≈F}
use Rattle.fraction.proofs.Certificate.{quote}
use Rattle.fraction.proofs.Certificate.{le_by, up, hi, lo, ◌⊞◌}
use Rattle.binary64.specs.Operators.{◌⊘◌, count}
use Rattle.binary64.specs.Range.{Sized}
use Rattle.binary64.specs.Value.{val}
use Rattle.diffusion.specs.Premises.{FluxBound, StepConditions, ParametersInRange}
use Rattle.diffusion.proofs.Profile.{values_at}
use Rattle.diffusion.specs.Run.{sub_step_params, Each, Both, AllReady, Stronger}
use Rattle.diffusion.specs.RunLaws.{share, bound}
use Rattle.diffusion.specs.Calls.{accepted, exact_after}
use Rattle.diffusion.proofs.CallLaws.{of_accepted, calls_total}
use Rattle.diffusion.proofs.CallLaws.{each_with, both_flip}
use Rattle.particle.specs.Particle.{place_of}
use Rattle.solver.specs.declared.SpmSolver.{SpmSolver}
use Rattle.solver.specs.Answers.{SpmStepAnswer}
use Rattle.solver.specs.Cell.{cell_refusal}
use Rattle.solver_step.specs.Plans.{sub_steps_of}
use Rattle.solver.specs.Step.{plan_of}
use Rattle.solver_laws.specs.Closure.{Leads, leads}
use Rattle.diffusion.proofs.Ordered.{Ordered}
use Rattle.solver_laws.specs.Ordered.{ordered_calls, both_with, both_copied}
use Rattle.solver_laws.specs.Electrodes.{Electrode, particle_at, diffusivity_in, nodes_are, current_fits_lem}
use Rattle.solver_laws.specs.Demand.{Call, answer, taken, K, plan_for, move_by, moves_by, grid_at, steps, numbers_at, place, Inv, itself, same_numbers}
use Rattle.solver_laws.specs.Ranking.{Paired, Twins, SolverRanking}
use Rattle.solver_laws.proofs.Electrodes.{cathode_flux, anode_flux}
use Rattle.solver_laws.proofs.Demand.{lawful, taken_is, total_is, conditions_hold, keeps, in_range_lem, near_from}

-- ---- one electrode, from two cells in the middle of a list
module _ (e : Electrode) (s : SpmSolver) where
  -- the sub-steps of the second are alike but for the fluxes, which are no less
  abbrev StrongerAt : Call → Call → Type 0
  StrongerAt q q' = Both Stronger (moves_by e (plan_for s q) q.dt) (moves_by e (plan_for s q') q'.dt)

  ready : (r : SpmSolver) (qs : List Call) → Inv s r → Each (λ q. StepConditions (numbers_at e s q)) (taken r qs) → Each (λ q. AllReady (grid_at e s) (moves_by e (plan_for s q) q.dt)) (accepted (steps e s) r qs)
  ready r qs v ks =
      each_with (λ q ms ns. each_with (λ m x y. record { ranges = x; conditions = y }) ms ns)
      (of_accepted (steps e s) (lawful e s) (λ q. Each (λ m. ParametersInRange (sub_step_params (grid_at e s) m)) (moves_by e (plan_for s q) q.dt)) (lawful e s).ranges qs r v) (keeps e s r qs v ks)

  module _ (r r' : SpmSolver) (qs qs' : List Call) (v : Inv s r) (v' : Inv s r') (ks : Each (λ q. StepConditions (numbers_at e s q)) (taken r qs)) (ks' : Each (λ q. StepConditions (numbers_at e s q)) (taken r' qs'))
      (pairs : Both StrongerAt (taken r qs) (taken r' qs')) where
    strong : Both StrongerAt (accepted (steps e s) r qs) (accepted (steps e s) r' qs')
    strong = rw (taken_is e s qs r, taken_is e s qs' r') pairs

    same_count : K r' qs' ≡ K r qs
    same_count =
        sym (sym (total_is e s qs r v) ∙ calls_total (steps e s) (lawful e s) (λ q q' k a b. k) r r' qs qs' v v' (keeps e s r qs v ks) (keeps e s r' qs' v' ks') strong ∙ total_is e s qs' r' v')

    ranked_at : ((i : ℕ) → i < (particle_at e s).n_nodes → val (place_of (particle_at e r) i) ≤F val (place_of (particle_at e r') i)) → (i : ℕ) → i < (particle_at e s).n_nodes
        → place e r qs i ≤F place e r' qs' i +F nat 2 *F nat (K r qs) *F val (particle_at e s).params.c_s_max /F pow2 49
    ranked_at start i l =
        let M = val (particle_at e s).params.c_s_max in
        let c = (particle_at e r).c_s in
        let c' = (particle_at e r').c_s in
        let x = place e r qs i in
        let y = place e r' qs' i in
        let X = get_or (exact_after (steps e s) r qs (map val c)) i (nat 0) in
        let Y = get_or (exact_after (steps e s) r' qs' (map val c')) i (nat 0) in
        let o : Ordered (grid_at e s) (map val c) (map val c') = record {
          long = rw (length-map c val) (in_range_lem e s r qs v).long;
          long' = rw (length-map c' val) (in_range_lem e s r' qs' v').long;
          below = λ k m. rw (values_at c k, values_at c' k) (start k m);
        } in
        let h : X ≤F Y = (ordered_calls (steps e s) r r' qs qs' strong (ready r qs v ks) o).below i l in
        let p : x -F X within bound (K r qs) M = near_from e s r qs v ks i l in
        let q : y -F Y within bound (K r qs) M = rw same_count at (near_from e s r' qs' v' ks' i l) in
        le_by (x ∷ y ∷ X ∷ Y ∷ nat (K r qs) ∷ M ∷ share ∷ []) 0 (up h ⊞ hi p ⊞ lo q) (search quote depth 24) tt

-- ---- the currents of accepted calls, and what pairs of calls give
sized_current : (e : Electrode) (s r : SpmSolver) (qs : List Call) → Inv s r → Each (λ q. Sized q.current (2 ^ 20) 1) (taken r qs)
sized_current e s r qs v = rw (← taken_is e s qs r) (of_accepted (steps e s) (lawful e s) (λ q. Sized q.current (2 ^ 20) 1) current qs r v)
  where
    current : (r : SpmSolver) (q : Call) → Inv s r → T (eqb (answer r q).refusal 0) → Sized q.current (2 ^ 20) 1
    current r q v = go (answer r q) (leads r q.current q.dt q.temp)
      where
        go : (a : SpmStepAnswer) → Leads r q.current q.dt q.temp a → T (eqb a.refusal 0) → Sized q.current (2 ^ 20) 1
        go a (Leads.refused k) t = absurd (subst T (eqb-suc-zero k) t)
        go a (Leads.moved h g f) t = current_fits_lem r q.current q.dt q.temp h

module _ (s : SpmSolver) (h : cell_refusal s ≡ 0) (q q' : Call) (k : Paired q q') where
  same_diffusivity : (e : Electrode) → diffusivity_in e (plan_for s q') ≡ diffusivity_in e (plan_for s q)
  unfolding plan_of
  same_diffusivity Electrode.anode = rw k.temp
  same_diffusivity Electrode.cathode = rw k.temp

  same_sub_steps : sub_steps_of (plan_for s q') ≡ sub_steps_of (plan_for s q)
  unfolding plan_of
  same_sub_steps = rw (k.dt, k.temp)

  same_part : q'.dt ⊘ count (sub_steps_of (plan_for s q')) ≡ q.dt ⊘ count (sub_steps_of (plan_for s q))
  same_part = ap (λ (n : ℕ). q'.dt ⊘ count n) same_sub_steps ∙ ap (λ (x : Float). x ⊘ count (sub_steps_of (plan_for s q))) k.dt

  module _ (m : Sized q.current (2 ^ 20) 1) (m' : Sized q'.current (2 ^ 20) 1) where
    cathode_stronger : StrongerAt Electrode.cathode s q q'
    cathode_stronger =
        subst (λ (n : ℕ). Both Stronger (moves_by Electrode.cathode (plan_for s q) q.dt) (replicate n (move_by Electrode.cathode (plan_for s q') q'.dt))) (sym same_sub_steps)
        (both_copied Stronger (move_by Electrode.cathode (plan_for s q) q.dt) (move_by Electrode.cathode (plan_for s q') q'.dt) (sub_steps_of (plan_for s q))
        (record { same_d = same_diffusivity Electrode.cathode; same_t = same_part; flux = cathode_flux s h q.current q'.current q.dt q'.dt q.temp q'.temp m m' k.current }))

    anode_stronger : StrongerAt Electrode.anode s q' q
    anode_stronger =
        subst (λ (n : ℕ). Both Stronger (replicate n (move_by Electrode.anode (plan_for s q') q'.dt)) (moves_by Electrode.anode (plan_for s q) q.dt)) (sym same_sub_steps)
        (both_copied Stronger (move_by Electrode.anode (plan_for s q') q'.dt) (move_by Electrode.anode (plan_for s q) q.dt) (sub_steps_of (plan_for s q))
        (record { same_d = sym (same_diffusivity Electrode.anode); same_t = sym same_part; flux = anode_flux s h q.current q'.current q.dt q'.dt q.temp q'.temp m m' k.current }))

-- ---- two cells of one make
twins_make : (s s' : SpmSolver) → cell_refusal s ≡ 0 → cell_refusal s' ≡ 0 → Twins s s' → Inv s s'
twins_make s s' h h' w = record { passes = h'; make = record { config = w.config; sheet = w.sheet; nodes = λ e. nodes_are s' h' e ∙ ap (λ c. c.n_nodes) w.config ∙ sym (nodes_are s h e) } }

-- THEOREM 3
pub solver_ranking : SolverRanking
solver_ranking s s' qs qs' h h' w bs bs' ps =
    let v = itself s h in
    let v' = twins_make s s' h h' w in
    let ks : (e : Electrode) → Each (λ q. StepConditions (numbers_at e s q)) (taken s qs) = λ e. conditions_hold e s s qs v (bs e) in
    let ks' : (e : Electrode) → Each (λ q. StepConditions (numbers_at e s q)) (taken s' qs') =
    λ e. conditions_hold e s s' qs' v' (each_with (λ q b c. subst FluxBound (same_numbers e s s' q v'.make) b) (bs' e) (bs' e)) in
    let m = sized_current Electrode.cathode s s qs v in
    let m' = sized_current Electrode.cathode s s' qs' v' in
    let more : Both (StrongerAt Electrode.cathode s) (taken s qs) (taken s' qs') = both_with (λ q q' k a b. cathode_stronger s h q q' k a b) ps m m' in
    let less : Both (StrongerAt Electrode.anode s) (taken s' qs') (taken s qs) = both_flip (both_with (λ q q' k a b. anode_stronger s h q q' k a b) ps m m') in
    let same = same_count Electrode.cathode s s s' qs qs' v v' (ks Electrode.cathode) (ks' Electrode.cathode) more in
    record {
      count = same;
      cathode = λ i l.
          let x = place Electrode.cathode s qs i in
          let y = place Electrode.cathode s' qs' i in
          let M = val s.cathode.params.c_s_max in
          let z : x ≤F y +F nat 2 *F nat (K s qs) *F M /F pow2 49 = ranked_at Electrode.cathode s s s' qs qs' v v' (ks Electrode.cathode) (ks' Electrode.cathode) more (λ k o. ≤F-of-≈F (≈F-sym (w.nodes Electrode.cathode k (subst (λ (n : ℕ). k < n) (nodes_are s h Electrode.cathode) o)))) i (rw (nodes_are s h Electrode.cathode) l) in
          let d : x -F nat 2 *F nat (K s qs) *F M /F pow2 49 ≤F y = le_by (x ∷ y ∷ nat (K s qs) ∷ M ∷ share ∷ []) 0 (up z) (search quote depth 24) tt in
          d;
      anode = λ i l. rw (← same) (ranked_at Electrode.anode s s' s qs' qs v' v (ks' Electrode.anode) (ks Electrode.anode) less (λ k o. ≤F-of-≈F (w.nodes Electrode.anode k (subst (λ (n : ℕ). k < n) (nodes_are s h Electrode.anode) o))) i (rw (nodes_are s h Electrode.anode) l));
    }
