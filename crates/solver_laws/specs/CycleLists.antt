-- A cycle of phases is a list of the solver's calls, one for each row: row j is the solver's own step with the current of the phase then under way on the cell that the rows before left;
-- and how a cycle ends: what the theorems of proofs/CycleLists are stated by. Assumes nothing.
use Rattle.std.specs.Prelude.{ℕ, ◌<◌, ◌≡◌, ◌&&◌, List}
use Rattle.std.proofs.Common.{zero-lt-suc}
use Rattle.std.proofs.Math.Bool.{true, false}
use Rattle.std.specs.Float.Ieee.Fits.{and_l}
use Rattle.refusal.specs.Numbers as N
use Rattle.runs.specs.Endings.{by_done}
use Rattle.solver.specs.declared.SpmSolver.{SpmSolver}
use Rattle.solver.specs.Cell.{grid_fits, cell_fits, cell_refusal}
use Rattle.cycle_run.specs.declared.phases.Phase.{Phase}
use Rattle.cycle_run.specs.declared.CycleSettings.{CycleSettings}
use Rattle.cycle_run.specs.Cycle.{none_left_of, counts_fit, counts_refusal, cycle_refusal, cycled}
use Rattle.solver_laws.specs.Build.{cell_passes}
use Rattle.solver_laws.specs.CycleCalls.{phases_left, cycle_step}

module _ (l : List Phase) (g : CycleSettings) (s : SpmSolver) where
  abbrev pub rows_of : ℕ → ℕ
  rows_of places = (cycled l g s places).rows

  -- DONE is the ending where no phase is left: the last one has ended
  pub record DoneCycle : Type 0 where
    pub cycle_done : (places : ℕ) → cycle_refusal l g s places ≡ 0 → none_left_of (phases_left l g s (rows_of places)) ≡ true → (cycled l g s places).ended ≡ record { ending = by_done; refusal = 0 }

  -- and where it is not refused as a whole, a phase is left, the budget is not made, and the number is that of the solver's own step after its rows
  pub record StepRefused (places : ℕ) : Type 0 where
    pub left : none_left_of (phases_left l g s (rows_of places)) ≡ false
    pub below : rows_of places < g.budget
    pub number : (cycled l g s places).ended.refusal ≡ (cycle_step l g s (rows_of places)).refusal

  -- the cell of a cycle that is not refused as a whole passes the checks
  pub cycle_passes : (places : ℕ) → cycle_refusal l g s places ≡ 0 → cell_refusal s ≡ 0
  unfolding cycle_refusal counts_refusal
  cycle_passes places h =
      let a = N.neither_refused _ _ h in
      let b = (N.neither_refused _ _ a.0).0 in
      let c = (N.neither_refused _ _ a.1).0 in
      cell_passes s (and_l (grid_fits s) (counts_fit g) (N.passed (grid_fits s && counts_fit g) N.grid (zero-lt-suc 0) b)) (N.passed (cell_fits s) N.sheet (zero-lt-suc 1) c)
