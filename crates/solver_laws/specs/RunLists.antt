-- The rows of a run are a list of the solver's calls, so theorem 2 holds of the cell that the run leaves, and theorem 3 of those that two runs leave: the list,
-- and the statement of theorem 2 (`RunNear`); the theorems stand in proofs/RunLists. Assumes nothing.
use Rattle.std.specs.Prelude.{ℕ, ◌*◌, ◌<◌, ◌≡◌, List, replicate}
use Rattle.fraction.specs.Fraction.{nat, pow2, ◌-F◌, ◌*F◌, ◌/F◌, ◌within◌}
use Rattle.binary64.specs.Value.{val}
use Rattle.refusal.specs.Numbers.{first_refusal, refusal_unless, grid, sheet, neither_refused}
use Rattle.diffusion.specs.Premises.{FluxBound}
use Rattle.particle.specs.Particle.{place_of}
use Rattle.runs.specs.Lowest.{Room}
use Rattle.solver.specs.declared.SpmSolver.{SpmSolver}
use Rattle.solver.specs.Cell.{grid_fits, cell_fits, cell_refusal}
use Rattle.solver_step.specs.Plans.{sub_steps_of}
use Rattle.discharge_run.specs.declared.RunSettings.{RunSettings}
use Rattle.discharge_run.specs.Discharge.{run_refusal, discharged}
use Rattle.solver_laws.specs.Electrodes.{Electrode, particle_at}
use Rattle.solver_laws.specs.Demand.{Call, plan_for, numbers_at, exact_place}

-- ---- what a run gives each step, and its list of calls: one for each row. A step that is refused ends the run without a row: it leaves the cell as it was, and adds no call.
abbrev pub call_of : RunSettings → Call
call_of w = record { current = w.current_a; dt = w.dt; temp = w.temp_k }

abbrev pub calls_of : RunSettings → SpmSolver → Room → List Call
calls_of w s places = replicate (discharged w s places).rows (call_of w)

-- the cell of a run that is not refused as a whole passes the checks
run_tests : (w : RunSettings) (s : SpmSolver) (places : Room) → run_refusal w s places ≡ 0 → (refusal_unless (grid_fits s) grid ≡ 0) × (refusal_unless (cell_fits s) sheet ≡ 0)
unfolding run_refusal
run_tests w s places h = let a = neither_refused _ _ h in (a.0, (neither_refused _ _ (neither_refused _ _ a.1).1).0)

pub run_passes : (w : RunSettings) (s : SpmSolver) (places : Room) → run_refusal w s places ≡ 0 → cell_refusal s ≡ 0
unfolding cell_refusal first_refusal
run_passes w s places h = let a = run_tests w s places h in rw (a.0, a.1)

-- THEOREM 2. Nothing refuses the whole run; at the electrode e its step keeps 2·h·∣flux∣ ≤ D·M. Then every node of e in the cell that the run leaves is within K·M / 2 ^ 49 of the exact
-- scheme from the same start over the run's calls, where K = rows · sub-steps of one step.
abbrev pub RunNear : Type 0
RunNear = (e : Electrode) (w : RunSettings) (s : SpmSolver) (places : Room) → run_refusal w s places ≡ 0 → FluxBound (numbers_at e s (call_of w)) → (i : ℕ) → i < (particle_at e s).n_nodes
    → val (place_of (particle_at e (discharged w s places).solver) i) -F exact_place e s (calls_of w s places) i
    within nat ((discharged w s places).rows * sub_steps_of (plan_for s (call_of w))) *F val (particle_at e s).params.c_s_max /F pow2 49
