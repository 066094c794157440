-- A worked instance of theorem 1: the ready graphite sheet, 11 nodes, discharge by steps of a second at 298.15 K, two refused calls among them. Computed. Assumes nothing.
use Rattle.std.specs.Prelude.{ℕ, ◌<◌, ◌≡◌, refl, List, [], ◌∷◌, length, get_or, Float}
use Rattle.std.proofs.Common.{sym, ap, ◌∙◌}
use Rattle.std.specs.Float.{nan}
use Rattle.std.specs.Float.Ieee.{neg, le, lt, add, sub, mul, div, of_int, fits, of_bits}
use Rattle.fraction.specs.Fraction.{whole, nat, pow2, neg_f, ◌-F◌, ◌*F◌, ◌/F◌, ∣◌∣, ◌within◌}
use Rattle.fraction.proofs.Order.{lit≤F}
use Rattle.binary64.specs.Operators.{◌⊖◌, ◌⊗◌, ◌⊘◌}
use Rattle.binary64.specs.Value.{val}
use Rattle.binary64.specs.Literals.{«0·0», «3·9e-14», «1·25e-6», «0·0001», «8·314», «298·15», «25290·4», «35000·0»}
use Rattle.elementary.specs.Exp.{one, exp_of}
use Rattle.elementary.proofs.ExpLaws.{exp_0}
use Rattle.refusal.specs.Numbers.{first_refusal, refusal_unless}
use Rattle.electrode.specs.Sheet.{graphite_anode, diffusivity_at}
use Rattle.iterate.specs.Iterate.{first_by}
use Rattle.diffusion.specs.SubStep.{rate, node, sub_step}
use Rattle.diffusion.specs.Premises.{StepConditions}
use Rattle.diffusion.specs.Run.{Each}
use Rattle.particle.specs.declared.ParticleDiffusion.{ParticleDiffusion}
use Rattle.particle.specs.Checks.{particle_refusal}
use Rattle.particle.specs.Particle.{spacing, place_of}
use Rattle.particle.specs.Calls.{new_refusal, fresh, made, step_refusal}
use Rattle.particle_laws.specs.Closure.{build_passes, step_number, step_moved}
use Rattle.particle_laws.specs.Demand.{Call, answer, place, exact_place, taken, K, numbers_of_of, particle_near}
use Rattle.particle_laws.specs.Accepted.{call_refusal, answer_number, fitting}
use Rattle.particle_laws.proofs.Accepted.{taken_are}

-- what `new` answers
abbrev pub start : ParticleDiffusion
start = (made graphite_anode 11).particle

pub start_passes : particle_refusal start ≡ 0
unfolding made new_refusal first_refusal refusal_unless graphite_anode le fits of_bits
start_passes = build_passes graphite_anode 11 tt refl

-- 298.15 K
abbrev room : Float
room = «298·15»

-- -1e-4 mol/(m^2 s) for a second: 6·D·t is 2.3e-13, h² 1.6e-12; 2·h·∣flux∣ is 2.5e-10, D·M 1.2e-9
abbrev pub draw : Call
draw = record { flux = neg «0·0001»; dt = one; temp = room }

-- refused: a flux that is no number, and an interval of 0
abbrev pub no_flux : Call
no_flux = record { flux = nan; dt = one; temp = room }

abbrev pub no_time : Call
no_time = record { flux = neg «0·0001»; dt = «0·0»; temp = room }

abbrev pub discharge : List Call
discharge = draw ∷ no_flux ∷ draw ∷ no_time ∷ draw ∷ []

-- ---- the binary64 numbers
-- 1.25e-6
spacing_is : spacing graphite_anode 11 ≡ «1·25e-6»
unfolding spacing graphite_anode div of_int of_bits
spacing_is = refl

-- at the reference temperature the exponent is 0, and E(0) = 1
exponent_is : «35000·0» ⊘ «8·314» ⊗ (one ⊘ room ⊖ one ⊘ room) ≡ «0·0»
unfolding sub mul div of_bits
exponent_is = refl

times_one : «3·9e-14» ⊗ one ≡ «3·9e-14»
unfolding mul of_bits
times_one = refl

-- 3.9e-14
diffusivity_is : diffusivity_at graphite_anode room ≡ «3·9e-14»
unfolding diffusivity_at graphite_anode
diffusivity_is = ap (λ (x : Float). «3·9e-14» ⊗ exp_of x) exponent_is ∙ ap (λ (x : Float). «3·9e-14» ⊗ x) exp_0 ∙ times_one

pub sheet_is : start.params ≡ graphite_anode
unfolding made new_refusal fresh first_refusal refusal_unless graphite_anode le of_bits
sheet_is = refl

pub nodes_are : start.n_nodes ≡ 11
unfolding made new_refusal fresh first_refusal refusal_unless graphite_anode le of_bits
nodes_are = refl

-- ---- the premises
closed_conditions : StepConditions (record { n = 11; h = val «1·25e-6»; D = val «3·9e-14»; M = val graphite_anode.c_s_max; flux = val draw.flux; t = val draw.dt })
unfolding graphite_anode val neg neg_f of_bits whole ◌*F◌ ∣◌∣
closed_conditions = record { stable = lit≤F tt; flux_bound = lit≤F tt }

chosen : fitting discharge ≡ draw ∷ draw ∷ draw ∷ []
unfolding fitting call_refusal first_refusal refusal_unless le lt neg of_bits
chosen = refl

draw_conditions : StepConditions (numbers_of_of start draw)
draw_conditions = rw (sheet_is, nodes_are, diffusivity_is, spacing_is) closed_conditions

pub discharge_taken : taken start discharge ≡ draw ∷ draw ∷ draw ∷ []
discharge_taken = taken_are start discharge start_passes ∙ chosen

pub discharge_conditions_hold : Each (λ q. StepConditions (numbers_of_of start q)) (taken start discharge)
discharge_conditions_hold = rw discharge_taken (Each.more draw_conditions (Each.more draw_conditions (Each.more draw_conditions Each.none)))

-- five calls, two of them refused: K = 3
pub discharge_counted : K start discharge ≡ 3
discharge_counted = ap length discharge_taken

-- ---- theorem 1 for them
pub graphite_near : (i : ℕ) → i < 11 → place start discharge i -F exact_place start discharge i within nat 3 *F val graphite_anode.c_s_max /F pow2 49
graphite_near i l = rw (← discharge_counted, ← sheet_is) (particle_near start discharge start_passes discharge_conditions_hold i (rw nodes_are l))

-- ---- the first call moves the surface from 25466.4 to 25290.4 mol/m^3
draw_fits : call_refusal draw ≡ 0
unfolding call_refusal first_refusal refusal_unless le lt neg of_bits
draw_fits = refl

draw_passes : step_refusal start draw.flux draw.dt draw.temp ≡ 0
draw_passes = sym (step_number start draw.flux draw.dt draw.temp) ∙ answer_number start draw start_passes ∙ draw_fits

closed_surface : get_or (sub_step (record { n = 11; dr = «1·25e-6»; d_s = «3·9e-14»; c_max = graphite_anode.c_s_max; j_n = draw.flux; dt = draw.dt }) start.c_s) 10 nan ≡ «25290·4»
unfolding made new_refusal fresh first_refusal refusal_unless graphite_anode first_by sub_step node rate le lt neg add sub mul div of_int of_bits
closed_surface = refl

surface_drawn : place_of (answer start draw).particle 10 ≡ «25290·4»
surface_drawn = rw (step_moved start draw.flux draw.dt draw.temp draw_passes, sheet_is, nodes_are, diffusivity_is, spacing_is) closed_surface
