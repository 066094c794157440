-- LISTS THAT MIX BUILDS, STEPS, RUNS, REPLAYS AND CYCLES of C. A build replaces the record; a run, a replay or a cycle hands on the cell after its finished rows, also where it is
-- refused after a row; a refused call changes nothing. The record of the last image is the record after the same calls. Assumes nothing.
use Rattle.std.specs.Prelude.{ℕ, ◌≡◌, ◌⊎◌, List, length}
use Rattle.image_laws.specs.CellImages.{particle_in}
use Rattle.particle_laws.specs.Demand as PD
use Rattle.solver_laws.specs.Demand as SD
use Rattle.cell_images.specs.Images.{cell_at}
use Rattle.electrolyte_images.specs.Images.{electrolyte_at}
use Rattle.dfn_images.specs.Images as I
use Rattle.boundary_laws.specs.CallLists.{Calls, CCall, Simulates, simulates, or_else, both_implement}
use Rattle.boundary_laws.specs.StepLists.{ElectrolyteCall, DfnCall, particle_steps, cell_steps, electrolyte_steps, dfn_steps, particle_steps_implement, electrolyte_steps_implement, dfn_steps_implement}
use Rattle.boundary_laws.specs.BuildLists.{Build, CellBuild, particle_builds, cell_builds, electrolyte_builds, dfn_builds, particle_builds_implement, electrolyte_builds_implement, dfn_builds_implement}
use Rattle.boundary_laws.specs.RunLists.{CellRun, DfnRun, cell_runs, dfn_runs, dfn_runs_implement}
use Rattle.boundary_laws.specs.ReplayLists.{CellReplay, cell_replays}
use Rattle.boundary_laws.specs.CycleLists.{CellCycle, cell_cycles}
use Rattle.image_layout.specs.Layout.{particle_bytes, electrolyte_bytes, cell_bytes, dfn_bytes}

-- ---- lists of all of them
abbrev pub particle_calls : Calls particle_bytes particle_in (Build ⊎ PD.Call)
particle_calls = or_else particle_builds particle_steps

-- a run of a single-particle cell, a replay or a cycle
abbrev pub CellRows : Type 0
CellRows = CellRun ⊎ (CellReplay ⊎ CellCycle)

abbrev pub cell_rows : Calls cell_bytes cell_at CellRows
cell_rows = or_else cell_runs (or_else cell_replays cell_cycles)

-- a call on it: a build, a step or one of these
abbrev pub CellCall : Type 0
CellCall = CellBuild ⊎ (SD.Call ⊎ CellRows)

abbrev pub cell_calls : Calls cell_bytes cell_at CellCall
cell_calls = or_else cell_builds (or_else cell_steps cell_rows)

abbrev pub electrolyte_calls : Calls electrolyte_bytes electrolyte_at (Build ⊎ ElectrolyteCall)
electrolyte_calls = or_else electrolyte_builds electrolyte_steps

abbrev pub dfn_calls : Calls dfn_bytes I.cell_at (Build ⊎ (DfnCall ⊎ DfnRun))
dfn_calls = or_else dfn_builds (or_else dfn_steps dfn_runs)

-- ---- THE RECORD OF THE LAST IMAGE is the record after the same calls
pub particle_calls_simulate : (qs : List (CCall (Build ⊎ PD.Call))) (s : List ℕ) → length s ≡ particle_bytes → Simulates particle_calls s qs
particle_calls_simulate = simulates particle_calls (both_implement particle_builds particle_steps particle_builds_implement particle_steps_implement)

pub electrolyte_calls_simulate : (qs : List (CCall (Build ⊎ ElectrolyteCall))) (s : List ℕ) → length s ≡ electrolyte_bytes → Simulates electrolyte_calls s qs
electrolyte_calls_simulate = simulates electrolyte_calls (both_implement electrolyte_builds electrolyte_steps electrolyte_builds_implement electrolyte_steps_implement)

pub dfn_calls_simulate : (qs : List (CCall (Build ⊎ (DfnCall ⊎ DfnRun)))) (s : List ℕ) → length s ≡ dfn_bytes → Simulates dfn_calls s qs
dfn_calls_simulate = simulates dfn_calls (both_implement dfn_builds (or_else dfn_steps dfn_runs) dfn_builds_implement (both_implement dfn_steps dfn_runs dfn_steps_implement dfn_runs_implement))
