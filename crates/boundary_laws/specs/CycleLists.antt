-- Cycles of C, `pj_cycle`: as a run, one that returns 0 or has written a row hands on the cell after its finished rows. That a cycle implements its definition stands in
-- proofs/CycleLists. Definitions only.
use Rattle.std.specs.Prelude.{ℕ, ◌&&◌, List, eqb, length}
use Rattle.solver.specs.declared.SpmSolver.{SpmSolver}
use Rattle.discharge_run.specs.Discharge.{RunOutcome}
use Rattle.cycle_run.specs.declared.CycleSettings.{CycleSettings}
use Rattle.cell_images.specs.Images.{cell_at}
use Rattle.cell_calls.specs.Runs as CR
use Rattle.boundary.specs.Runs as BR
use Rattle.boundary_laws.specs.CallLists.{Calls}
use Rattle.boundary_laws.specs.RunLists.{run_writes}
use Rattle.image_layout.specs.Layout.{cell_bytes, cell_run_bytes, phases_bytes}

-- ---- cycles: the image of the phases, any bytes of any length; the rows that are lent count only by their number of places
pub record CellCycle : Type 0 where
  pub phases : List ℕ
  pub settings : CycleSettings
  pub places : ℕ

-- what a cycle gives
abbrev pub cycle : SpmSolver → CellCycle → RunOutcome
cycle c q = CR.cycled_from q.phases q.settings c q.places

abbrev pub cell_cycles : Calls cell_bytes cell_at CellCycle
cell_cycles = record {
  formed = λ q a. eqb (length q.phases) phases_bytes && eqb (length a) cell_run_bytes;
  returned = λ s q a. BR.cycle_return s q.phases q.settings q.places (length a);
  left = λ s q a. BR.cycle_after s q.phases q.settings q.places a;
  handed = λ s q a. BR.cycle_lengths (length s) (length q.phases) (length a) && run_writes (cycle (cell_at s) q);
  refusal = λ c q. (cycle c q).ended.refusal;
  next = λ c q. (cycle c q).solver;
}
