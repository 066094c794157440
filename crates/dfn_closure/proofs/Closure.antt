-- What a step leads to: an accepted one to a cell that passes the checks again, a refused one to the cell as it was. Assumes nothing.
use Rattle.std.specs.Prelude.{ℕ, zero, suc, ◌≡◌, refl, Bool, true, false, cond, ◌&&◌, T, eqb, Float}
use Rattle.std.proofs.Common.{ap, arith, zero-lt-suc}
use Rattle.std.proofs.Math.Dec.{eqb-suc-zero}
use Rattle.std.specs.Float.Ieee.{le, lt, neg, of_bits}
use Rattle.std.specs.Float.Ieee.Scale.{finite}
use Rattle.std.specs.Float.Ieee.Fits.{and_i, and_l, and_r}
use Rattle.binary64.specs.Operators.{◌⊕◌}
use Rattle.binary64.specs.Order.{between_finite}
use Rattle.binary64.specs.Literals.{«0·0», «86400·0», «1e6»}
use Rattle.refusal.specs.Numbers.{first_refusal, refusal_unless, load, interval, neither_refused, passed}
use Rattle.refusal.specs.Ranges.{load_fits_of, interval_fits, clock_fits}
use Rattle.refusal.specs.RangeLaws.{Between}
use Rattle.dfn_parameters.specs.Ranges.{parameters_fit, grid_fits, limits_fit}
use Rattle.dfn_parameters.specs.Sides.{anode_of, cathode_of, pore_flux}
use Rattle.arrays.specs.Places.{all_finite}
use Rattle.dfn_places.specs.Places.{solid_fits, electrolyte_fits}
use Rattle.dfn_solid.specs.Solid.{d_solids, solid_after}
use Rattle.dfn_solid.specs.Room.{room}
use Rattle.dfn_electrolyte.specs.Electrolyte.{diffusivity_params, region_of, d_effs, electrolyte_after}
use Rattle.dfn.specs.Checks.{Fields, used_neg, used_pos, used_electrolyte, fields_fit_of, cell_refusal, step_refusal, cell_grid, cell_fields, fields_valid, step_cell}
use Rattle.dfn.specs.Step.{particle_params, moved_by, report_of, cell_with, all_numbers, no_report, refused_with, answered, followed, advanced, stepped}
use Rattle.dfn.specs.declared.DfnSolver.{DfnSolver}
use Rattle.dfn.specs.declared.DfnStep.{DfnStep}
use Rattle.dfn.specs.Answers.{DfnStepAnswer}
use Rattle.dfn_closure.specs.Clamped.{le_chain, clock_on}
use Rattle.dfn_closure.specs.Tests.{unit, top, max_neg, max_pos}
use Rattle.dfn_closure.specs.Arrays.{solid_closed, electrolyte_closed}
use Rattle.dfn_closure.specs.Closure.{accepted_step, call_valid, cell_passes, fields_closed, grid_kept, new_cell}

-- A STEP THAT IS ACCEPTED leads to a cell that passes the checks
pub step_passes : (d : DfnSolver) (current dt : Float) → (stepped d current dt).refusal ≡ 0 → cell_refusal (stepped d current dt).cell ≡ 0
step_passes d current dt h =
    let a = accepted_step d current dt h in
    rw a.leaves (cell_passes (new_cell d current dt) (grid_kept d current dt (step_cell d current dt a.before)) (fields_closed d current dt a))

pub next_step : (d : DfnSolver) (current dt : Float) → (stepped d current dt).refusal ≡ 0 → step_refusal (stepped d current dt).cell current dt ≡ 0
unfolding step_refusal first_refusal
next_step d current dt h = rw (step_passes d current dt h) (call_valid d current dt (accepted_step d current dt h).before)
