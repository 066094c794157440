-- `pj_cycle` implements its definition. Assumes nothing.
use Rattle.std.specs.Prelude.{ℕ, ◌≡◌, true, false, ◌&&◌, List, eqb, length, take}
use Rattle.std.proofs.Math.Bool.{and-eq-true_iff}
use Rattle.std.proofs.Common.{eq-eqb, eqb-true, lit≤, length-take-le}
use Rattle.solver.specs.declared.SpmSolver.{SpmSolver}
use Rattle.cell_images.specs.Images.{cell_at}
use Rattle.cell_calls.specs.Runs as CR
use Rattle.boundary.specs.Calls as B
use Rattle.boundary.specs.Runs as BR
use Rattle.image_laws.specs.CellRuns.{cycle_idle}
use Rattle.image_laws.specs.AnswerLengths.{cycle_length}
use Rattle.image_laws.specs.ReadBack.{cycle_read_back}
use Rattle.boundary_laws.specs.CallLists.{Implements, writes_on_implements}
use Rattle.boundary_laws.specs.RunLists.{run_writes, no_row}
use Rattle.image_layout.specs.Layout.{cell_bytes, cell_run_bytes, phases_bytes}
use Rattle.boundary_laws.specs.CycleLists.{CellCycle, cell_cycles, cycle}

-- ---- a cycle implements its definition
module _ (s : List ℕ) (q : CellCycle) (a : List ℕ) (l : length s ≡ cell_bytes) where
  cycle_returned : cell_cycles.returned s q a ≡ B.after_lengths (cell_cycles.formed q a) (cell_cycles.refusal (cell_at s) q)
  unfolding BR.cycle_return CR.cycle_return
  cycle_returned = rw (eq-eqb (length s) cell_bytes l)

  cycle_handed : cell_cycles.handed s q a ≡ cell_cycles.formed q a && run_writes (cycle (cell_at s) q)
  cycle_handed = rw (eq-eqb (length s) cell_bytes l)

  module _ (e : cell_cycles.formed q a ≡ true) (h : run_writes (cycle (cell_at s) q) ≡ true) where
    phases_long : length q.phases ≡ phases_bytes
    phases_long = eqb-true (length q.phases) phases_bytes ((and-eq-true_iff (eqb (length q.phases) phases_bytes) (eqb (length a) cell_run_bytes)).0 e).0

    answer_long : length a ≡ cell_run_bytes
    answer_long = eqb-true (length a) cell_run_bytes ((and-eq-true_iff (eqb (length q.phases) phases_bytes) (eqb (length a) cell_run_bytes)).0 e).1

    cycle_reads : cell_at (take cell_bytes (cell_cycles.left s q a)) ≡ cell_cycles.next (cell_at s) q
    cycle_reads = (cycle_read_back s q.phases q.settings q.places a l phases_long answer_long (rw h tt)).cell

    cycle_fills : length (take cell_bytes (cell_cycles.left s q a)) ≡ cell_bytes
    cycle_fills =
        let n = cycle_length s q.phases q.settings q.places a l phases_long answer_long (rw h tt) in
        length-take-le cell_bytes (cell_cycles.left s q a) (rw n (lit≤ tt))

cycle_keeps : (c : SpmSolver) (q : CellCycle) → run_writes (cycle c q) ≡ false → cell_cycles.next c q ≡ c
cycle_keeps c q h = cycle_idle q.phases q.settings c q.places (no_row (cycle c q).ended.refusal (cycle c q).rows h)

pub cell_cycles_implement : Implements cell_cycles
cell_cycles_implement =
    writes_on_implements cell_cycles (λ c q. run_writes (cycle c q))
    (record { returned_is = cycle_returned; handed_is = cycle_handed; written_reads = cycle_reads; written_fills = cycle_fills; unwritten_keeps = cycle_keeps })
