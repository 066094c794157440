-- THEOREM 2 OF LISTS THAT MIX BUILDS, STEPS, RUNS, REPLAYS AND CYCLES: the cell of the last image is the cell of the last accepted build (or of the first image) after a list of
-- steps, those of the runs, replays and cycles among them, and every node is within K·M / 2 ^ 49 of the exact one. Assumes nothing.
use Rattle.std.specs.Prelude.{ℕ, ◌≡◌, refl, Bool, true, false, cond, List, [], ◌∷◌, ◌++◌, eqb}
use Rattle.std.proofs.Common.{inl, inr, eqb-true}
use Rattle.discharge_run.specs.Discharge as DR
use Rattle.solver.specs.declared.SpmSolver.{SpmSolver}
use Rattle.solver.specs.Cell.{cell_refusal}
use Rattle.solver_laws.specs.Demand as SD
use Rattle.solver_laws.specs.RunLists.{calls_of}
use Rattle.solver_laws.specs.ReplayCalls as RC
use Rattle.solver_laws.specs.CycleCalls as YC
use Rattle.cell_images.specs.Images.{cell_at}
use Rattle.cell_calls.specs.Phases.{phases_at}
use Rattle.image_builds.specs.Builds.{cell_built}
use Rattle.boundary_laws.specs.CallLists.{CCall, well_formed_of}
use Rattle.boundary_laws.specs.BuildLists.{CellBuild}
use Rattle.boundary_laws.specs.RunLists.{CellRun}
use Rattle.boundary_laws.specs.ReplayLists.{CellReplay, replay}
use Rattle.boundary_laws.specs.CycleLists.{CellCycle, cycle}
use Rattle.boundary_laws.specs.MixedLists.{CellRows, CellCall, cell_calls}
use Rattle.boundary_laws.specs.BuiltCells.{cell_build_passes}

-- ---- a run as a list of steps: one for each row
abbrev pub turns_of : SpmSolver → CellRun → List SD.Call
turns_of c q = calls_of (DR.run_settings q.current q.dt q.temp q.limit) c q.places

-- a replay: one for each line that has a row
abbrev pub lines_of : SpmSolver → CellReplay → List SD.Call
lines_of c q = RC.calls_of q.text q.temp (replay c q).rows

-- a cycle: one for each row, of the phase then under way
abbrev pub phases_of : SpmSolver → CellCycle → List SD.Call
phases_of c q = YC.calls_of (phases_at q.phases) q.settings c (cycle c q).rows

abbrev pub rows_of : SpmSolver → CellRows → List SD.Call
rows_of c (inl q) = turns_of c q
rows_of c (inr (inl q)) = lines_of c q
rows_of c (inr (inr q)) = phases_of c q

-- ---- the cell of the last accepted build, and the steps since then
pub record SinceBuild : Type 0 where
  pub start : SpmSolver
  pub steps : List SD.Call

abbrev pub cell_of : SinceBuild → SpmSolver
cell_of z = SD.cell_after z.start z.steps

unfoldable pub since_build : SinceBuild → List CellCall → SinceBuild
since_build z [] = z
since_build z (inl b ∷ qs) =
    cond (eqb (cell_built b.call b.image).refusal 0) (since_build (record { start = (cell_built b.call b.image).solver; steps = [] }) qs) (since_build z qs)
since_build z (inr (inl q) ∷ qs) = since_build (record { start = z.start; steps = z.steps ++ q ∷ [] }) qs
since_build z (inr (inr r) ∷ qs) = since_build (record { start = z.start; steps = z.steps ++ rows_of (cell_of z) r }) qs

-- of calls from C on the image s
abbrev pub since_build_in : List ℕ → List (CCall CellCall) → SinceBuild
since_build_in s qs = since_build (record { start = cell_at s; steps = [] }) (well_formed_of cell_calls qs)

-- the cell that the steps start from passes the checks where that of the first image does
start_passes : (qs : List CellCall) (z : SinceBuild) → cell_refusal z.start ≡ 0 → cell_refusal (since_build z qs).start ≡ 0
unfolding since_build
start_passes [] z h = h
start_passes (inl b ∷ qs) z h = go (eqb (cell_built b.call b.image).refusal 0) refl (start_passes qs (new b)) (start_passes qs z h)
  where
    new : CellBuild → SinceBuild
    new b = record { start = (cell_built b.call b.image).solver; steps = [] }

    go : (t : Bool) → eqb (cell_built b.call b.image).refusal 0 ≡ t → (cell_refusal (new b).start ≡ 0 → cell_refusal (since_build (new b) qs).start ≡ 0)
        → cell_refusal (since_build z qs).start ≡ 0 → cell_refusal (cond t (since_build (new b) qs) (since_build z qs)).start ≡ 0
    go true e f g = f (cell_build_passes b.call b.image (eqb-true (cell_built b.call b.image).refusal 0 e))
    go false e f g = g
start_passes (inr (inl q) ∷ qs) z h = start_passes qs (record { start = z.start; steps = z.steps ++ q ∷ [] }) h
start_passes (inr (inr r) ∷ qs) z h = start_passes qs (record { start = z.start; steps = z.steps ++ rows_of (cell_of z) r }) h

pub mixed_start_passes : (s : List ℕ) (qs : List (CCall CellCall)) → cell_refusal (cell_at s) ≡ 0 → cell_refusal (since_build_in s qs).start ≡ 0
mixed_start_passes s qs h = start_passes (well_formed_of cell_calls qs) (record { start = cell_at s; steps = [] }) h
