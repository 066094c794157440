-- A worked instance of theorem 2 for a cycle: the cell of `Instance`, a discharge at 3 A and a rest of 1 s, twice, by steps of 1 s, at most four of them. Computed. Assumes nothing.
use Rattle.std.specs.Prelude.{ℕ, zero, suc, ◌<◌, ◌≡◌, refl, true, List, ◌∷◌, T, replicate}
use Rattle.std.proofs.Common.{◌∙◌, arith}
use Rattle.std.specs.Float.{binary64, nan}
use Rattle.std.specs.Float.Ieee.{le, lt, neg, add, fits, of_bits}
use Rattle.std.specs.Float.Ieee.Bits.{is_true}
use Rattle.std.specs.Float.Ieee.Scale.{finite}
use Rattle.fraction.specs.Fraction.{nat, pow2, ◌-F◌, ◌*F◌, ◌/F◌, ◌within◌}
use Rattle.binary64.specs.Operators.{◌⊕◌}
use Rattle.binary64.specs.Value.{val}
use Rattle.binary64.specs.Literals.{«0·0», «1e6»}
use Rattle.elementary.specs.Exp.{one}
use Rattle.iterate.specs.Iterate.{all_below}
use Rattle.refusal.specs.Numbers.{first_refusal, refusal_unless}
use Rattle.refusal.specs.Ranges.{load_fits_of, interval_fits, temperature_fits}
use Rattle.runs.specs.Endings.{by_refusal}
use Rattle.particle.specs.Particle.{place_of}
use Rattle.solver.specs.Cell.{grid_fits, cell_fits, cell_valid}
use Rattle.cycle_run.specs.declared.phases.Phase.{Phase}
use Rattle.cycle_run.specs.declared.phases.Phase.TheVariants.{Charge, Rest, Discharge}
use Rattle.cycle_run.specs.declared.CycleSettings.{CycleSettings}
use Rattle.cycle_run.specs.Phases.{loads_fit, times_fit, phases_from, repeated}
use Rattle.cycle_run.specs.Cycle.{cycle_settings, counts_refusal, cycle_refusal, cycled}
use Rattle.solver_laws.specs.Electrodes.{Electrode, particle_at, nodes_are, grid_passed, current_range}
use Rattle.solver_laws.specs.Demand.{cell_after, K, exact_place}
use Rattle.solver_laws.specs.CycleCalls.{calls_of, made_by, cycle_step}
use Rattle.solver_laws.proofs.CycleLists.{cycle_refused, cycle_refused_step}
use Rattle.solver_laws.proofs.CycleEnds.{cycle_refused_first}
use Rattle.solver_laws.specs.CycleDemand.{PhaseFluxBounds}
use Rattle.solver_laws.proofs.CycleDemand.{cycle_near}
use Rattle.solver_laws.specs.Instance.{start, start_passes, start_made, room, room_fits, three, four, one_split, draw_accepted, currents_fit, small}
use Rattle.solver_laws.proofs.Instance.{draw_bound}

-- two phases; the other six places are not looked at
abbrev pub phases : List Phase
phases = Discharge three ∷ Rest one ∷ replicate 6 (Charge nan)

-- two repeats, a budget of four steps
abbrev pub settings : CycleSettings
settings = cycle_settings 2 2 4 one room

-- ---- nothing refuses the whole cycle, with room for four rows
record Fitting : Type 0 where
  loads : loads_fit phases 2 ≡ true
  times : times_fit phases 2 ≡ true
  interval : interval_fits one ≡ true

fitting : Fitting
unfolding loads_fit times_fit all_below le lt of_bits
fitting = record { loads = refl; times = refl; interval = refl }

pub phases_pass : cycle_refusal phases settings start 32 ≡ 0
unfolding cycle_refusal counts_refusal first_refusal refusal_unless
phases_pass =
    rw (
      is_true (grid_fits start) (grid_passed start start_passes),
      is_true (cell_fits start) (cell_valid start start_passes),
      fitting.loads,
      fitting.interval,
      fitting.times,
      is_true (temperature_fits room) room_fits,
    )

abbrev rows : ℕ
rows = (cycled phases settings start 32).rows

-- ---- nor does a step
clock : T (fits binary64 start.time_s) × T (finite (start.time_s ⊕ one))
unfolding fits add of_bits
clock = (tt, tt)

first_accepted : (cycle_step phases settings start 0).refusal ≡ 0
unfolding made_by phases_from repeated cell_after
first_accepted = draw_accepted start start_made three one 2 one_split currents_fit.0 clock.1

pub phases_unrefused : (cycled phases settings start 32).ended.ending ≡ by_refusal → ⊥
phases_unrefused d =
    let z = (cycle_refused_first phases settings start 32 phases_pass clock.0 d).0 in
    cycle_refused phases settings start 32 d ((cycle_refused_step phases settings start 32 phases_pass d).number ∙ rw z first_accepted)

-- ---- each phase keeps 2·h·∣flux∣ ≤ D·M
rest_fits : T (load_fits_of «0·0» «1e6») × T (load_fits_of «0·0» four)
unfolding le neg of_bits
rest_fits = (tt, tt)

pub phases_bounds : (e : Electrode) → PhaseFluxBounds e phases settings start
phases_bounds e zero m = draw_bound e three one (current_range three currents_fit.0) small.0
phases_bounds e (suc zero) m = draw_bound e «0·0» one (current_range «0·0» rest_fits.0) rest_fits.1
phases_bounds e (suc (suc k)) m = absurd (omega (arith, m))

-- THEOREM 2 for the cell that the cycle leaves, wherever the discharge ends
pub phases_near : (e : Electrode) (i : ℕ) → i < 11
    → val (place_of (particle_at e (cycled phases settings start 32).solver) i) -F exact_place e start (calls_of phases settings start rows) i
    within nat (K start (calls_of phases settings start rows)) *F val (particle_at e start).params.c_s_max /F pow2 49
phases_near e i l = cycle_near e phases settings start 32 start_passes (phases_bounds e) i (rw (nodes_are start start_passes e) l)
