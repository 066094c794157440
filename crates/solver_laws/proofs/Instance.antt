-- A worked instance of theorems 2 and 3: the ready cell of graphite and lithium iron phosphate, 11 nodes, 298.15 K. A call of 60 s, which has 64 sub-steps, and one of 1 s, which has two, on
-- the cell that it leaves, at 3 A and at 4 A, with refused calls before, between and after them; and a second cell of another clock. Computed. Assumes nothing.
use Rattle.std.specs.Prelude.{ℕ, ◌+◌, ◌^◌, ◌<◌, ◌≡◌, refl, List, [], ◌∷◌, ◌++◌, T, Float}
use Rattle.std.proofs.Common.{sym, ap, ◌∙◌, subst, arith}
use Rattle.std.specs.Float.Ieee.{neg, le, mul, div, round, size, of_int, of_bits}
use Rattle.std.specs.Float.Ieee.Fits.{and_l, and_r}
use Rattle.std.specs.Float.Ieee.Scale.{finite}
use Rattle.fraction.specs.Fraction.{whole, nat, pow2, neg_f, ◌-F◌, ◌*F◌, ◌/F◌, ∣◌∣, ◌≤F◌, ◌within◌}
use Rattle.fraction.proofs.Field.{≤F-trans}
use Rattle.fraction.proofs.Order.{lit≤F}
use Rattle.fraction.proofs.Within.{abs_of_within}
use Rattle.fraction.proofs.Certificate.{quote}
use Rattle.fraction.proofs.Certificate.{le_by, up, num, ◌⊞◌, ◌⊠◌}
use Rattle.binary64.specs.Operators.{◌⊕◌, f64}
use Rattle.binary64.specs.Range.{Sized}
use Rattle.binary64.specs.Value.{val}
use Rattle.binary64.specs.Literals.{«1e6»}
use Rattle.elementary.specs.Exp.{one}
use Rattle.refusal.specs.Ranges.{load_fits_of}
use Rattle.electrode.specs.Sheet.{graphite_anode, lfp_cathode, specific_area}
use Rattle.diffusion.specs.Premises.{FluxBound}
use Rattle.diffusion.specs.Run.{Each, Both}
use Rattle.particle.specs.Particle.{spacing}
use Rattle.particle.specs.Calls.{fresh}
use Rattle.kinetics.specs.Kinetics.{surface_current}
use Rattle.solver.specs.declared.SpmSolver.{SpmSolver}
use Rattle.solver.specs.Step.{current_density, plan_of}
use Rattle.solver_laws.specs.Electrodes.{Electrode, particle_at, diffusivity_in, flux_in, nodes_are, current_range}
use Rattle.solver_laws.proofs.Electrodes.{cathode_flux, anode_flux}
use Rattle.solver_laws.specs.Closure.{step_clock}
use Rattle.solver_laws.specs.Demand.{Call, answer, taken, K, plan_for, numbers_at, FluxBoundAt, place, exact_place, Inv, stays, same_numbers}
use Rattle.solver_laws.proofs.Demand.{solver_near, at_accepted, at_refused}
use Rattle.solver_laws.specs.Ranking.{Ranked}
use Rattle.solver_laws.proofs.Ranking.{solver_ranking}
use Rattle.solver_laws.specs.Instance.{DischargeCalls, draw_accepted, draw_count, clocks, currents_fit, d_neg_of, d_pos_of, discharge, draw, four, later, later_made, later_passes, minute, minute_split, no_current, no_current_refused, one_split, plan_by, plan_is, quotient, room, small, start, start_made, start_passes, stronger, stronger_paired, three, too_long, too_long_refused, twins}

-- ---- a current of at most 4 A keeps 2·h·∣flux∣ ≤ D·M: the fluxes are least and greatest at -4 A and 4 A
abbrev flux_most : Electrode → Float
flux_most Electrode.anode = f64 0x3f08_1cac_346c_4365
flux_most Electrode.cathode = f64 0x3eec_ef35_0bb5_1da9

record FluxEnds (dt : Float) : Type 0 where
  anode_low : flux_in Electrode.anode (plan_of start four dt room) ≡ neg (flux_most Electrode.anode)
  anode_high : flux_in Electrode.anode (plan_of start (neg four) dt room) ≡ flux_most Electrode.anode
  cathode_low : flux_in Electrode.cathode (plan_of start (neg four) dt room) ≡ neg (flux_most Electrode.cathode)
  cathode_high : flux_in Electrode.cathode (plan_of start four dt room) ≡ flux_most Electrode.cathode

flux_ends : (dt : Float) → FluxEnds dt
unfolding plan_of current_density fresh surface_current specific_area graphite_anode lfp_cathode neg mul div of_bits
flux_ends dt = record { anode_low = refl; anode_high = refl; cathode_low = refl; cathode_high = refl }

neg_most : (e : Electrode) → neg_f (val (flux_most e)) ≤F val (neg (flux_most e))
unfolding val neg_f whole neg of_bits
neg_most Electrode.anode = lit≤F tt
neg_most Electrode.cathode = lit≤F tt

four_sized : Sized four (2 ^ 20) 1 × Sized (neg four) (2 ^ 20) 1
unfolding le neg of_bits
four_sized = (current_range four tt, current_range (neg four) tt)

flux_within : (e : Electrode) (i dt : Float) → Sized i (2 ^ 20) 1 → T (load_fits_of i four) → val (flux_in e (plan_for start (draw i dt))) within val (flux_most e)
flux_within Electrode.anode i dt m h =
    let f = flux_ends dt in
    let a = anode_flux start start_passes i four dt dt room room m four_sized.0 (and_r (le (neg four) i) (le i four) h) in
    let b = anode_flux start start_passes (neg four) i dt dt room room four_sized.1 m (and_l (le (neg four) i) (le i four) h) in
    record { lo = ≤F-trans (neg_most Electrode.anode) (rw f.anode_low at a); hi = rw f.anode_high at b }
flux_within Electrode.cathode i dt m h =
    let f = flux_ends dt in
    let a = cathode_flux start start_passes i four dt dt room room m four_sized.0 (and_r (le (neg four) i) (le i four) h) in
    let b = cathode_flux start start_passes (neg four) i dt dt room room four_sized.1 m (and_l (le (neg four) i) (le i four) h) in
    record { lo = ≤F-trans (neg_most Electrode.cathode) (rw f.cathode_low at b); hi = rw f.cathode_high at a }

-- at the anode 2·h·∣flux∣ is at most 1.2e-10 and D·M 1.2e-9; at the cathode 6.9e-12 and 2.3e-10
abbrev diffusivity_of : Electrode → Float
diffusivity_of Electrode.anode = d_neg_of
diffusivity_of Electrode.cathode = d_pos_of

abbrev spacing_at : Electrode → Float
spacing_at e = spacing (particle_at e start).params (particle_at e start).n_nodes

record MostFlux (e : Electrode) : Type 0 where
  spaced : nat 0 ≤F val (spacing_at e)
  bound : nat 2 *F val (spacing_at e) *F val (flux_most e) ≤F val (diffusivity_of e) *F val (particle_at e start).params.c_s_max

most_flux : (e : Electrode) → MostFlux e
unfolding fresh spacing graphite_anode lfp_cathode val whole ◌*F◌ div round size of_int of_bits
most_flux Electrode.anode = record { spaced = lit≤F tt; bound = lit≤F tt }
most_flux Electrode.cathode = record { spaced = lit≤F tt; bound = lit≤F tt }

diffusivity_is : (e : Electrode) (i dt q : Float) → diffusivity_in e (plan_by i dt q) ≡ diffusivity_of e
diffusivity_is Electrode.anode i dt q = refl
diffusivity_is Electrode.cathode i dt q = refl

pub draw_bound : (e : Electrode) (i dt : Float) → Sized i (2 ^ 20) 1 → T (load_fits_of i four) → FluxBound (numbers_at e start (draw i dt))
draw_bound e i dt m h =
    let q = quotient dt in
    let D : diffusivity_in e (plan_for start (draw i dt)) ≡ diffusivity_of e = ap (diffusivity_in e) (plan_is i dt q refl) ∙ diffusivity_is e i dt q in
    let f = abs_of_within (flux_within e i dt m h) in
    let s = most_flux e in
    let w = val (spacing_at e) in
    let j = ∣ val (flux_in e (plan_for start (draw i dt))) ∣ in
    let d = val (diffusivity_of e) in
    let M = val (particle_at e start).params.c_s_max in
    let g : nat 2 *F w *F j ≤F d *F M = le_by (w ∷ j ∷ d ∷ M ∷ val (flux_most e) ∷ []) 0 (num 2 ⊠ s.spaced ⊠ up f ⊞ up s.bound) (search quote depth 24) tt in
    rw D g

-- refused by every cell of the make
abbrev Refuses : Call → Type 0
Refuses q = (r : SpmSolver) → Inv start r → (answer r q).refusal ≡ 0 → ⊥

refuses_no_current : Refuses no_current
refuses_no_current r v z = let a = no_current_refused r v in absurd (omega (arith, a, z))

refuses_too_long : Refuses too_long
refuses_too_long r v z = let a = too_long_refused r v currents_fit.0 in absurd (omega (arith, a, z))

-- ---- refused calls in front of a list
skip_taken : {ps : List Call} → Each Refuses ps → (r : SpmSolver) → Inv start r → (qs : List Call) → taken r (ps ++ qs) ≡ taken r qs
skip_taken Each.none r v qs = refl
skip_taken (Each.more {x = p} {xs = ps} h hs) r v qs = (at_refused Electrode.anode start r p (ps ++ qs) [] (h r v)).calls ∙ skip_taken hs r v qs

skip_count : {ps : List Call} → Each Refuses ps → (r : SpmSolver) → Inv start r → (qs : List Call) → K r (ps ++ qs) ≡ K r qs
skip_count Each.none r v qs = refl
skip_count (Each.more {x = p} {xs = ps} h hs) r v qs = (at_refused Electrode.anode start r p (ps ++ qs) [] (h r v)).count ∙ skip_count hs r v qs

nothing_taken : (s : SpmSolver) → taken s [] ≡ []
unfolding taken
nothing_taken s = refl

nothing_counted : (s : SpmSolver) → K s [] ≡ 0
unfolding K
nothing_counted s = refl

-- ---- 60 s and then 1 s from a cell r: both accepted, 66 sub-steps
record Drawn (i : Float) (r : SpmSolver) (qs : List Call) : Type 0 where
  calls : taken r qs ≡ draw i minute ∷ draw i one ∷ []
  count : K r qs ≡ 66

-- with refused calls anywhere
module _ (i : Float) (h : T (load_fits_of i «1e6»)) (r : SpmSolver) (v : Inv start r) (f : T (finite (r.time_s ⊕ minute))) (g : T (finite (r.time_s ⊕ minute ⊕ one)))
    {before between after : List Call} (a : Each Refuses before) (b : Each Refuses between) (c : Each Refuses after) where
  abbrev last : List Call
  last = after ++ []

  abbrev rest : List Call
  rest = between ++ draw i one ∷ last

  abbrev then : SpmSolver
  then = (answer r (draw i minute)).solver

  abbrev final : SpmSolver
  final = (answer then (draw i one)).solver

  first_accepted : (answer r (draw i minute)).refusal ≡ 0
  first_accepted = draw_accepted r v i minute 64 minute_split h f

  then_made : Inv start then
  then_made = stays start r (draw i minute) v

  then_clock : T (finite (then.time_s ⊕ one))
  then_clock = rw (step_clock r i minute room first_accepted) g

  second_accepted : (answer then (draw i one)).refusal ≡ 0
  second_accepted = draw_accepted then then_made i one 2 one_split h then_clock

  final_made : Inv start final
  final_made = stays start then (draw i one) then_made

  drawn : Drawn i r (before ++ draw i minute ∷ rest)
  drawn =
      let x = at_accepted Electrode.anode start r (draw i minute) rest [] first_accepted in
      let y = at_accepted Electrode.anode start then (draw i one) last [] second_accepted in
      record {
        calls =
            skip_taken a r v (draw i minute ∷ rest) ∙ x.calls
            ∙ ap (λ (l : List Call). draw i minute ∷ l) (skip_taken b then then_made (draw i one ∷ last) ∙ y.calls
            ∙ ap (λ (l : List Call). draw i one ∷ l) (skip_taken c final final_made [] ∙ nothing_taken final));
        count =
            skip_count a r v (draw i minute ∷ rest) ∙ x.count ∙ ap (λ (k : ℕ). k + K then rest) (draw_count r v i minute 64 minute_split h f)
            ∙ ap (λ (k : ℕ). 64 + k) (skip_count b then then_made (draw i one ∷ last) ∙ y.count
            ∙ ap (λ (k : ℕ). k + K final last) (draw_count then then_made i one 2 one_split h then_clock)
            ∙ ap (λ (k : ℕ). 2 + k) (skip_count c final final_made [] ∙ nothing_counted final));
      }

-- at most 4 A: the bound holds
drawn_bounds : (e : Electrode) (i : Float) (r : SpmSolver) (qs : List Call) → Sized i (2 ^ 20) 1 → T (load_fits_of i four) → Inv start r → Drawn i r qs → FluxBoundAt e r qs
drawn_bounds e i r qs m s v d =
    let b : (dt : Float) → FluxBound (numbers_at e r (draw i dt)) = λ dt. subst FluxBound (sym (same_numbers e start r (draw i dt) v.make)) (draw_bound e i dt m s) in
    rw d.calls (Each.more (b minute) (Each.more (b one) Each.none))

discharge_drawn : Drawn three start discharge
discharge_drawn =
    let n = Each.more refuses_no_current Each.none in
    drawn three currents_fit.0 start start_made clocks.0.0 clocks.0.1 n (Each.more refuses_too_long Each.none) n

stronger_drawn : Drawn four later stronger
stronger_drawn = drawn four currents_fit.1 later later_made clocks.1.0 clocks.1.1 Each.none (Each.more refuses_no_current (Each.more refuses_too_long Each.none)) Each.none

-- which calls are accepted, and how many sub-steps they have
pub discharge_calls : DischargeCalls
discharge_calls = record { discharge_taken = discharge_drawn.calls; discharge_counted = discharge_drawn.count }

pub discharge_taken : taken start discharge ≡ draw three minute ∷ draw three one ∷ []
discharge_taken = discharge_calls.discharge_taken

pub discharge_counted : K start discharge ≡ 66
discharge_counted = discharge_calls.discharge_counted

pub stronger_taken : taken later stronger ≡ draw four minute ∷ draw four one ∷ []
stronger_taken = stronger_drawn.calls

pub discharge_bounds : (e : Electrode) → FluxBoundAt e start discharge
discharge_bounds e = drawn_bounds e three start discharge (current_range three currents_fit.0) small.0 start_made discharge_drawn

pub stronger_bounds : (e : Electrode) → FluxBoundAt e later stronger
stronger_bounds e = drawn_bounds e four later stronger (current_range four currents_fit.1) small.1 later_made stronger_drawn

-- THEOREM 2: five calls, three refused
pub discharge_near : (e : Electrode) (i : ℕ) → i < 11
    → place e start discharge i -F exact_place e start discharge i within nat 66 *F val (particle_at e start).params.c_s_max /F pow2 49
discharge_near e i l = rw (← discharge_counted) (solver_near e start discharge start_passes (discharge_bounds e) i (rw (nodes_are start start_passes e) l))

-- THEOREM 3: two clocks, refused calls at other places of the two lists
pub discharge_ranked : Ranked start later discharge stronger
discharge_ranked =
    solver_ranking start later discharge stronger start_passes later_passes twins discharge_bounds stronger_bounds
    (rw (discharge_taken, stronger_taken) (Both.more (stronger_paired minute) (Both.more (stronger_paired one) Both.none)))
