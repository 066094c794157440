-- Lists that mix builds, steps, runs, replays and cycles of a single-particle cell. Assumes nothing.
use Rattle.std.specs.Prelude.{ℕ, ◌≡◌, List, length}
use Rattle.boundary_laws.specs.CallLists.{CCall, Simulates, simulates, or_else, both_implement}
use Rattle.boundary_laws.specs.StepLists.{cell_steps}
use Rattle.boundary_laws.proofs.StepLists.{cell_steps_implement}
use Rattle.boundary_laws.specs.BuildLists.{cell_builds}
use Rattle.boundary_laws.proofs.BuildLists.{cell_builds_implement}
use Rattle.boundary_laws.specs.RunLists.{cell_runs}
use Rattle.boundary_laws.proofs.RunLists.{cell_runs_implement}
use Rattle.boundary_laws.specs.ReplayLists.{cell_replays}
use Rattle.boundary_laws.proofs.ReplayLists.{cell_replays_implement}
use Rattle.boundary_laws.specs.CycleLists.{cell_cycles}
use Rattle.boundary_laws.proofs.CycleLists.{cell_cycles_implement}
use Rattle.image_layout.specs.Layout.{cell_bytes}
use Rattle.boundary_laws.specs.MixedLists.{CellCall, cell_calls, cell_rows}

pub cell_calls_simulate : (qs : List (CCall CellCall)) (s : List ℕ) → length s ≡ cell_bytes → Simulates cell_calls s qs
cell_calls_simulate =
    let rows = both_implement cell_runs (or_else cell_replays cell_cycles) cell_runs_implement (both_implement cell_replays cell_cycles cell_replays_implement cell_cycles_implement) in
    simulates cell_calls (both_implement cell_builds (or_else cell_steps cell_rows) cell_builds_implement (both_implement cell_steps cell_rows cell_steps_implement rows))
