-- A worked instance of theorems 2 and 3: the ready cell of graphite and lithium iron phosphate, 11 nodes, 298.15 K. A call of 60 s, which has 64 sub-steps, and one of 1 s, which has two, on
-- the cell that it leaves, at 3 A and at 4 A, with refused calls before, between and after them; and a second cell of another clock. Computed. Assumes nothing.
use Rattle.std.specs.Prelude.{ℕ, ◌≡◌, refl, ◌&&◌, List, [], ◌∷◌, T, Float}
use Rattle.std.proofs.Common.{ap, ◌∙◌, subst}
use Rattle.std.specs.Float.{binary64, nan}
use Rattle.std.specs.Float.Ieee.{neg, is_nan, le, lt, add, sub, mul, div, round, size, of_int, fits, of_bits}
use Rattle.std.specs.Float.Ieee.Bits.{is_true}
use Rattle.std.specs.Float.Ieee.Fits.{and_i, and_l}
use Rattle.std.specs.Float.Ieee.Scale.{finite}
use Rattle.fraction.proofs.Field.{≈F-refl}
use Rattle.binary64.specs.Operators.{◌⊕◌, ◌⊖◌, ◌⊗◌, ◌⊘◌, f64}
use Rattle.binary64.specs.Literals.{«0·0», «1e-14», «3·9e-14», «0·0002», «2·5», «3·0», «4·0», «4·2», «8·314», «298·15», «3600·0», «20000·0», «35000·0», «86400·0», «96485·0», «1e6»}
use Rattle.elementary.specs.Exp.{one, exp_of}
use Rattle.elementary.proofs.ExpLaws.{exp_0}
use Rattle.min_max.specs.Count.{ceil_of}
use Rattle.refusal.specs.Numbers.{first_refusal, refusal_unless}
use Rattle.refusal.specs.Ranges.{load_fits_of, interval_fits, temperature_fits, clock_fits}
use Rattle.electrode.specs.Sheet.{graphite_anode, lfp_cathode, diffusivity_at}
use Rattle.particle.specs.Checks.{fields_fit_of}
use Rattle.particle.specs.Particle.{spacing, stable_step}
use Rattle.particle.specs.Calls.{fresh}
use Rattle.kinetics.specs.declared.SpmConfig.{SpmConfig}
use Rattle.kinetics.specs.Kinetics.{config_fits, surface_current}
use Rattle.solver.specs.declared.SpmSolver.{SpmSolver}
use Rattle.solver.specs.Cell.{cell_refusal, build_refusal, fresh_solver, built, ready, cell_valid}
use Rattle.solver_step.specs.declared.plan.Plan.{Plan}
use Rattle.solver_step.specs.Plans.{quotient_with, plan_refusal, sub_steps_of}
use Rattle.solver.specs.Step.{input_refusal, current_density, plan_of, planned, stepped}
use Rattle.solver_laws.specs.Electrodes.{Electrode, particle_at, grid_passed}
use Rattle.solver_laws.specs.Closure.{step_count}
use Rattle.solver_laws.specs.Build.{cell_passes, build_passes}
use Rattle.solver_laws.specs.Acceptance.{step_accepted}
use Rattle.solver_laws.specs.Demand.{Call, answer, taken, K, plan_for, Inv, itself, same_plan}
use Rattle.solver_laws.specs.Ranking.{Paired, Twins}

-- ---- two cells
-- the config's defaults
abbrev pub config : SpmConfig
config = record {
  n_nodes = 11;
  v_min = «2·5»;
  v_max = «4·2»;
  faraday = «96485·0»;
  r_gas = «8·314»;
  r_electrolyte_ohm_m2 = «0·0002»;
}

abbrev pub cell_at : Float → SpmSolver
cell_at clock = record { config = config; anode = fresh graphite_anode 11; cathode = fresh lfp_cathode 11; time_s = clock }

-- what `graphite_lfp` answers
abbrev pub start : SpmSolver
start = cell_at «0·0»

-- the same at 3,600 s
abbrev pub later : SpmSolver
later = cell_at «3600·0»

-- ---- the calls, all at 298.15 K
abbrev pub room : Float
room = «298·15»

-- a minute, and a day
abbrev pub minute : Float
minute = f64 0x404e_0000_0000_0000

abbrev day : Float
day = «86400·0»

abbrev pub three : Float
three = «3·0»

abbrev pub four : Float
four = «4·0»

abbrev pub draw : Float → Float → Call
draw i dt = record { current = i; dt = dt; temp = room }

-- refused with 3: a current that is no number
abbrev pub no_current : Call
no_current = draw nan one

-- refused with 7: a day at once has 92,160 sub-steps
abbrev pub too_long : Call
too_long = draw three day

-- at 3 A, and at 4 A
abbrev pub discharge : List Call
discharge = no_current ∷ draw three minute ∷ too_long ∷ draw three one ∷ no_current ∷ []

abbrev pub stronger : List Call
stronger = draw four minute ∷ no_current ∷ too_long ∷ draw four one ∷ []

-- ---- the cells pass the checks
pub start_is : ((ready config lfp_cathode).refusal ≡ 0) × ((ready config lfp_cathode).solver ≡ start)
unfolding built build_refusal fresh_solver first_refusal refusal_unless graphite_anode lfp_cathode le neg of_bits
start_is = (refl, refl)

max_fits : T (fits binary64 graphite_anode.c_s_max) × T (fits binary64 lfp_cathode.c_s_max)
unfolding graphite_anode lfp_cathode fits of_bits
max_fits = (tt, tt)

pub start_passes : cell_refusal start ≡ 0
start_passes = subst (λ (s : SpmSolver). cell_refusal s ≡ 0) start_is.1 (build_passes config graphite_anode lfp_cathode max_fits.0 max_fits.1 start_is.0)

later_clock : T (clock_fits later.time_s)
unfolding le of_bits
later_clock = tt

pub later_passes : cell_refusal later ≡ 0
later_passes =
    let a = config_fits config && fields_fit_of (fresh graphite_anode 11) && fields_fit_of (fresh lfp_cathode 11) in
    cell_passes later (grid_passed start start_passes) (and_i a (clock_fits later.time_s) (and_l a (clock_fits «0·0») (cell_valid start start_passes)) later_clock)

same_particle : (e : Electrode) → particle_at e later ≡ particle_at e start
same_particle Electrode.anode = refl
same_particle Electrode.cathode = refl

pub later_made : Inv start later
later_made = record { passes = later_passes; make = record { config = refl; sheet = λ e. rw (same_particle e); nodes = λ e. rw (same_particle e) } }

-- the same but for the clock
pub twins : Twins start later
twins = record { config = refl; sheet = λ e. later_made.make.sheet e; nodes = λ e i l. rw (same_particle e) ≈F-refl }

-- ---- the diffusivities: at the reference temperature the exponent is 0, and E(0) = 1
abbrev pub d_neg_of : Float
d_neg_of = «3·9e-14»

abbrev pub d_pos_of : Float
d_pos_of = «1e-14»

abbrev exponent : Float → Float
exponent activation = activation ⊘ «8·314» ⊗ (one ⊘ room ⊖ one ⊘ room)

exponents : (exponent «35000·0» ≡ «0·0») × (exponent «20000·0» ≡ «0·0»)
unfolding sub mul div of_bits
exponents = (refl, refl)

times_one : (d_neg_of ⊗ one ≡ d_neg_of) × (d_pos_of ⊗ one ≡ d_pos_of)
unfolding mul of_bits
times_one = (refl, refl)

pub anode_diffusivity : diffusivity_at graphite_anode room ≡ d_neg_of
unfolding diffusivity_at graphite_anode
anode_diffusivity = ap (λ (x : Float). d_neg_of ⊗ exp_of x) exponents.0 ∙ ap (λ (x : Float). d_neg_of ⊗ x) exp_0 ∙ times_one.0

pub cathode_diffusivity : diffusivity_at lfp_cathode room ≡ d_pos_of
unfolding diffusivity_at lfp_cathode
cathode_diffusivity = ap (λ (x : Float). d_pos_of ⊗ exp_of x) exponents.1 ∙ ap (λ (x : Float). d_pos_of ⊗ x) exp_0 ∙ times_one.1

-- ---- the plan of any current and interval
abbrev pub quotient : Float → Float
quotient dt = quotient_with graphite_anode 11 lfp_cathode 11 dt d_neg_of d_pos_of

abbrev pub plan_by : Float → Float → Float → Plan
plan_by i dt q = record {
  d_neg = d_neg_of;
  d_pos = d_pos_of;
  j_neg = neg (current_density start i) ⊘ surface_current graphite_anode config.faraday;
  j_pos = current_density start i ⊘ surface_current lfp_cathode config.faraday;
  q = q;
}

pub plan_is : (i dt q : Float) → quotient dt ≡ q → plan_for start (draw i dt) ≡ plan_by i dt q
unfolding plan_of fresh
plan_is i dt q e = rw (anode_diffusivity, cathode_diffusivity, e)

-- an interval of k sub-steps
pub record Split (dt : Float) (k : ℕ) : Type 0 where
  q : Float
  quotient_is : quotient dt ≡ q
  passes : (i : Float) → plan_refusal (plan_by i dt q) ≡ 0
  count_is : ceil_of q ≡ k
  fits : T (interval_fits dt)

pub one_split : Split one 2
unfolding fresh spacing stable_step plan_refusal first_refusal refusal_unless graphite_anode lfp_cathode ceil_of is_nan le lt mul div round size of_int of_bits
one_split = record { q = f64 0x3ff1_1111_1111_110f; quotient_is = refl; passes = λ i. refl; count_is = refl; fits = tt }

pub minute_split : Split minute 64
unfolding fresh spacing stable_step plan_refusal first_refusal refusal_unless graphite_anode lfp_cathode ceil_of is_nan le lt mul div round size of_int of_bits
minute_split = record { q = f64 0x404f_ffff_ffff_fffd; quotient_is = refl; passes = λ i. refl; count_is = refl; fits = tt }

-- the day's
abbrev day_quotient : Float
day_quotient = f64 0x40f6_7fff_ffff_fffe

day_split : (quotient day ≡ day_quotient) × (((i : Float) → plan_refusal (plan_by i day day_quotient) ≡ 7) × T (interval_fits day))
unfolding fresh spacing stable_step plan_refusal first_refusal refusal_unless graphite_anode lfp_cathode is_nan le lt mul div round size of_int of_bits
day_split = (refl, (λ i. refl, tt))

-- ---- a cell of that make, in the middle of a list
pub room_fits : T (temperature_fits room)
unfolding le of_bits
room_fits = tt

module _ (r : SpmSolver) (v : Inv start r) where
  draw_input : (i dt : Float) → T (load_fits_of i «1e6») → T (interval_fits dt) → input_refusal r i dt room ≡ 0
  unfolding input_refusal first_refusal refusal_unless
  draw_input i dt h k = rw (v.passes, is_true (load_fits_of i «1e6») h, is_true (interval_fits dt) k, is_true (temperature_fits room) room_fits)

  draw_plan : (i dt q : Float) → quotient dt ≡ q → plan_for r (draw i dt) ≡ plan_by i dt q
  draw_plan i dt q e = same_plan start r (draw i dt) v.make ∙ plan_is i dt q e

  -- A DRAW is accepted, whatever the profiles, and reports its sub-steps
  module _ (i dt : Float) (k : ℕ) (c : Split dt k) (h : T (load_fits_of i «1e6»)) (f : T (finite (r.time_s ⊕ dt))) where
    pub draw_accepted : (answer r (draw i dt)).refusal ≡ 0
    draw_accepted = step_accepted r i dt room (draw_input i dt h c.fits) (rw (draw_plan i dt c.q c.quotient_is) (c.passes i)) f

    pub draw_count : (answer r (draw i dt)).sub_steps ≡ k
    draw_count = step_count r i dt room draw_accepted ∙ ap sub_steps_of (draw_plan i dt c.q c.quotient_is) ∙ c.count_is

  -- the refused calls
  no_current_input : input_refusal r nan one room ≡ 3
  unfolding input_refusal first_refusal refusal_unless le neg of_bits
  no_current_input = rw v.passes

  pub no_current_refused : (answer r no_current).refusal ≡ 3
  unfolding stepped
  no_current_refused = rw no_current_input

  pub too_long_refused : T (load_fits_of three «1e6») → (answer r too_long).refusal ≡ 7
  unfolding stepped planned
  too_long_refused h = rw (draw_input three day h day_split.1.1, draw_plan three day day_quotient day_split.0, day_split.1.0 three)

pub currents_fit : T (load_fits_of three «1e6») × T (load_fits_of four «1e6»)
unfolding le neg of_bits
currents_fit = (tt, tt)

pub small : T (load_fits_of three four) × T (load_fits_of four four)
unfolding le neg of_bits
small = (tt, tt)

-- ---- the two lists
pub clocks : (T (finite (start.time_s ⊕ minute)) × T (finite (start.time_s ⊕ minute ⊕ one))) × (T (finite (later.time_s ⊕ minute)) × T (finite (later.time_s ⊕ minute ⊕ one)))
unfolding add of_bits
clocks = ((tt, tt), (tt, tt))

pub start_made : Inv start start
start_made = itself start start_passes

-- 3 A and 4 A are paired
more_current : T (le three four)
unfolding le of_bits
more_current = tt

pub stronger_paired : (dt : Float) → Paired (draw three dt) (draw four dt)
stronger_paired dt = record { dt = refl; temp = refl; current = more_current }

-- ---- which calls are accepted, and how many sub-steps they have: proofs/Instance
pub record DischargeCalls : Type 0 where
  pub discharge_taken : taken start discharge ≡ draw three minute ∷ draw three one ∷ []
  pub discharge_counted : K start discharge ≡ 66
