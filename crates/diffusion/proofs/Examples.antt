-- Closed numbers. The exact scheme on three nodes, worked out. Then graphite (radius 12.5e-6, 11 nodes): fluxes, a refused call among them, that meet every premise of the laws.
use Rattle.std.specs.Prelude.{ℕ, ◌<◌, ◌≡◌, refl, cond, List, [], ◌∷◌, map, T, pos, negsuc, get_or, replicate, Float}
use Rattle.std.proofs.Common.{subst, sym, lit≤}
use Rattle.std.proofs.lemmas.List.{get_or-replicate}
use Rattle.std.specs.Float.{nan}
use Rattle.std.specs.Float.Ieee.{neg, of_bits, add, sub, mul, div, of_int, lt}
use Rattle.std.specs.Float.Ieee.Scale.{finite}
use Rattle.fraction.specs.Fraction.{Fraction, whole, nat, frac, pow2, turned, inv, neg_f, ◌+F◌, ◌-F◌, ◌*F◌, ◌/F◌, ∣◌∣, ◌≤?◌, min_f, max_f, clamp_f, ◌≈F◌, ◌≤F◌, ◌within◌}
use Rattle.fraction.proofs.Order.{lit≤F, lit≈F}
use Rattle.binary64.specs.Value.{val}
use Rattle.binary64.specs.Literals.{«3·9e-14», «1·25e-6», «0·0002», «0·0004», «1·0», «24762·4», «25466·4», «31833·0»}
use Rattle.iterate.specs.Iterate.{first_by}
use Rattle.diffusion.specs.SubStep.{rate, node, sub_step}
use Rattle.diffusion.specs.Exact.{Numbers, numbers, g, centre, inner, surface, moved, exact_node, exact_step}
use Rattle.diffusion.specs.Premises.{StepConditions, ParametersInRange, NodeInRange, ProfileInRange}
use Rattle.diffusion.specs.Run.{Grid, Move, sub_step_params, run, Each, Both}
use Rattle.diffusion.specs.Calls.{Stepper, after, accepted, total, exact_after, ConditionsHold, Lawful}
use Rattle.diffusion.proofs.CallLaws.{calls_near, calls_ranking}

-- ---- h = D = 1, t = 1/6 so that g = 1/6, M = 100, from the nodes 0, 60, 0
abbrev three : Fraction → Numbers
three f = record { n = 3; h = nat 1; D = nat 1; M = nat 100; flux = f; t = frac (pos 1) 6 tt }

abbrev placed : Fraction → ℕ → Fraction
placed f i = get_or (exact_step (three f) (nat 0 ∷ nat 60 ∷ nat 0 ∷ [])) i (nat 0)

-- 0 + 6/6·(60 − 0)
at_centre : placed (nat 0) 0 ≈F nat 60
unfolding exact_step first_by exact_node moved centre inner surface g clamp_f min_f max_f ◌≤?◌ ◌+F◌ ◌*F◌ neg_f inv turned whole
at_centre = lit≈F refl

-- 60 + 1/6·0·(0 − 60) + 1/6·2·(0 − 60)
at_inner : placed (nat 0) 1 ≈F nat 40
unfolding exact_step first_by exact_node moved centre inner surface g clamp_f min_f max_f ◌≤?◌ ◌+F◌ ◌*F◌ neg_f inv turned whole
at_inner = lit≈F refl

-- 0 + 2/6·(60 − 0) + 2/6·flux·(1 + 1/2)
at_surface : placed (nat 20) 2 ≈F nat 30
unfolding exact_step first_by exact_node moved centre inner surface g clamp_f min_f max_f ◌≤?◌ ◌+F◌ ◌*F◌ neg_f inv turned whole
at_surface = lit≈F refl

-- 520 becomes M, and −480 becomes 0
above : placed (nat 1000) 2 ≈F nat 100
unfolding exact_step first_by exact_node moved centre inner surface g clamp_f min_f max_f ◌≤?◌ ◌+F◌ ◌*F◌ neg_f inv turned whole
above = lit≈F refl

below : placed (whole (negsuc 999)) 2 ≈F nat 0
unfolding exact_step first_by exact_node moved centre inner surface g clamp_f min_f max_f ◌≤?◌ ◌+F◌ ◌*F◌ neg_f inv turned whole
below = lit≈F refl

-- ---- graphite
-- 1.25e-6, 3.9e-14, 31833, 1
abbrev h : Float
h = «1·25e-6»

abbrev D : Float
D = «3·9e-14»

abbrev M : Float
M = «31833·0»

abbrev second : Float
second = «1·0»

-- −4e-4 and −2e-4: 2·h·∣flux∣ is 1e-9 and 5e-10, D·M is 1.24e-9
abbrev fast : Float
fast = neg «0·0004»

abbrev slow : Float
slow = neg «0·0002»

-- 25466.4 at each of eleven nodes
abbrev c : Float
c = «25466·4»

abbrev start : List Float
start = replicate 11 c

-- a sub-step of a second
abbrev graphite : Grid
graphite = record { n = 11; dr = h; c_max = M }

abbrev move : Float → Move
move j = record { d_s = D; j_n = j; dt = second }

-- calls are fluxes; one that is not finite is refused
abbrev cell : Stepper (List Float) Float
cell = record { step = λ s j. cond (finite j) (run graphite (move j ∷ []) s) s; ok = λ s j. finite j; moves = λ j. move j ∷ []; profile = λ s. s; grid = graphite }

graphite_in_range : (j : Float) → T (finite j) → ParametersInRange (sub_step_params graphite (move j))
unfolding val of_bits ◌*F◌ whole
graphite_in_range j t = record {
  n_low = lit≤ tt;
  n_high = lit≤ tt;
  dr = record { low = lit≤F tt; high = lit≤F tt };
  d_s = record { low = lit≤F tt; high = lit≤F tt };
  c_max = record { low = lit≤F tt; high = lit≤F tt };
  j_fine = t;
  dt_fine = tt;
  dt_low = lit≤F tt;
}

lawful : Lawful cell (λ s. Unit {0})
lawful = record { stays = λ s j i. tt; law = λ s j i. refl; ranges = λ s j i t. Each.more (graphite_in_range j t) Each.none }

fast_conditions : StepConditions (numbers (sub_step_params graphite (move fast)))
unfolding val neg neg_f of_bits ◌*F◌ whole ∣◌∣
fast_conditions = record { stable = lit≤F tt; flux_bound = lit≤F tt }

slow_conditions : StepConditions (numbers (sub_step_params graphite (move slow)))
unfolding val neg neg_f of_bits ◌*F◌ whole ∣◌∣
slow_conditions = record { stable = lit≤F tt; flux_bound = lit≤F tt }

all_in_range : ProfileInRange 11 (val M) start
unfolding val of_bits whole
all_in_range = record { long = lit≤ tt; nodes = λ i l. subst (λ (x : Float). NodeInRange (val M) x) (sym (get_or-replicate 11 i c nan l)) (record { fine = tt; range = record { lower = lit≤F tt; upper = lit≤F tt } }) }

-- a refused call stands between two that are accepted, and adds nothing to K
abbrev discharge : List Float
discharge = fast ∷ nan ∷ fast ∷ []

abbrev weaker_flux : List Float
weaker_flux = slow ∷ slow ∷ nan ∷ []

counted : total cell start discharge ≡ 2
unfolding total of_bits neg
counted = refl

fast_conditions_hold : ConditionsHold cell start discharge
unfolding accepted of_bits neg
fast_conditions_hold = Each.more (Each.more fast_conditions Each.none) (Each.more (Each.more fast_conditions Each.none) Each.none)

slow_conditions_hold : ConditionsHold cell start weaker_flux
unfolding accepted of_bits neg
slow_conditions_hold = Each.more (Each.more slow_conditions Each.none) (Each.more (Each.more slow_conditions Each.none) Each.none)

pub graphite_near : (i : ℕ) → i < 11 → val (get_or (after cell start discharge) i nan) -F get_or (exact_after cell start discharge (map val start)) i (nat 0) within nat 2 *F val M /F pow2 49
graphite_near i l = rw counted at (calls_near cell lawful start discharge tt all_in_range fast_conditions_hold i l)

-- the one sub-step moves the surface from 25466.4 to 24762.4
surface_moved : get_or (run graphite (move fast ∷ []) start) 10 nan ≡ «24762·4»
unfolding run sub_step first_by node rate of_bits neg add sub mul div of_int lt
surface_moved = refl

-- ---- the ranking
flux_order : val fast ≤F val slow
unfolding val neg neg_f of_bits
flux_order = lit≤F tt

paired : Both (λ j j'. val j ≤F val j') (accepted cell start discharge) (accepted cell start weaker_flux)
unfolding accepted of_bits neg
paired = Both.more flux_order (Both.more flux_order Both.none)

pub graphite_ranked : (i : ℕ) → i < 11 → val (get_or (after cell start discharge) i nan) ≤F val (get_or (after cell start weaker_flux) i nan) +F nat 2 *F nat 2 *F val M /F pow2 49
graphite_ranked i l = rw counted at
    (calls_ranking cell lawful (λ j j' k r r'. Both.more (record { same_d = refl; same_t = refl; flux = k }) Both.none) start start discharge weaker_flux tt tt fast_conditions_hold slow_conditions_hold paired refl all_in_range i l)
