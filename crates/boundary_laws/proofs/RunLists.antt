-- `pj_simulate_discharge` implements its definition: one that returns 0 or has written a row hands on the cell after its finished rows. Assumes nothing.
use Rattle.std.specs.Prelude.{ℕ, ◌≡◌, true, false, ◌&&◌, List, length, take}
use Rattle.std.proofs.Common.{eq-eqb, eqb-true, lit≤, length-take-le}
use Rattle.solver.specs.declared.SpmSolver.{SpmSolver}
use Rattle.discharge_run.specs.Discharge as DR
use Rattle.cell_images.specs.Images.{cell_at}
use Rattle.cell_calls.specs.Runs as CR
use Rattle.boundary.specs.Calls as B
use Rattle.boundary.specs.Runs as BR
use Rattle.image_laws.specs.CellRuns.{run_idle}
use Rattle.image_laws.specs.AnswerLengths.{discharge_length}
use Rattle.image_laws.specs.ReadBack.{discharge_read_back}
use Rattle.boundary_laws.specs.CallLists.{Implements, writes_on_implements}
use Rattle.image_layout.specs.Layout.{cell_bytes, cell_run_bytes}
use Rattle.boundary_laws.specs.RunLists.{CellRun, cell_runs, discharge, no_row, run_writes}

module _ (s : List ℕ) (q : CellRun) (a : List ℕ) (l : length s ≡ cell_bytes) where
  cell_run_returned : cell_runs.returned s q a ≡ B.after_lengths (cell_runs.formed q a) (cell_runs.refusal (cell_at s) q)
  unfolding BR.discharge_return CR.discharge_return
  cell_run_returned = rw (eq-eqb (length s) cell_bytes l)

  cell_run_handed : cell_runs.handed s q a ≡ cell_runs.formed q a && run_writes (discharge (cell_at s) q)
  cell_run_handed = rw (eq-eqb (length s) cell_bytes l)

  module _ (e : cell_runs.formed q a ≡ true) (h : run_writes (discharge (cell_at s) q) ≡ true) where
    cell_run_reads : cell_at (take cell_bytes (cell_runs.left s q a)) ≡ cell_runs.next (cell_at s) q
    cell_run_reads = (discharge_read_back s q.current q.dt q.temp q.limit q.places a l (eqb-true (length a) cell_run_bytes e) (rw h tt)).cell

    cell_run_fills : length (take cell_bytes (cell_runs.left s q a)) ≡ cell_bytes
    cell_run_fills =
        let n = discharge_length s q.current q.dt q.temp q.limit q.places a l (eqb-true (length a) cell_run_bytes e) (rw h tt) in
        length-take-le cell_bytes (cell_runs.left s q a) (rw n (lit≤ tt))

cell_run_keeps : (c : SpmSolver) (q : CellRun) → run_writes (discharge c q) ≡ false → cell_runs.next c q ≡ c
cell_run_keeps c q h = run_idle (DR.run_settings q.current q.dt q.temp q.limit) c q.places (no_row (discharge c q).ended.refusal (discharge c q).rows h)

pub cell_runs_implement : Implements cell_runs
cell_runs_implement =
    writes_on_implements cell_runs (λ c q. run_writes (discharge c q))
    (record { returned_is = cell_run_returned; handed_is = cell_run_handed; written_reads = cell_run_reads; written_fills = cell_run_fills; unwritten_keeps = cell_run_keeps })
