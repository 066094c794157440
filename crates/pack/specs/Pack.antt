-- A pack: several single-particle cells on one config and one pair of sheets, over the list of its cells and the solver's own step. Definitions only.
use Rattle.std.specs.Prelude.{ℕ, cond, List, [], ltb, eqb, length, get_or, set, Float}
use Rattle.binary64.specs.Literals.{«0·0»}
use Rattle.refusal.specs.Numbers.{first_refusal, refusal_unless, grid, index}
use Rattle.refusal.specs.Ranges.{count_in_range}
use Rattle.electrode.specs.declared.ElectrodeParams.{ElectrodeParams}
use Rattle.kinetics.specs.declared.SpmConfig.{SpmConfig}
use Rattle.solver_step.specs.declared.SpmParts.{SpmParts}
use Rattle.solver_step.specs.Answers.{SpmReported}
use Rattle.solver_step.specs.Moves.{refused_move}
use Rattle.solver.specs.declared.SpmSolver.{SpmSolver}
use Rattle.solver.specs.Answers.{SpmStepAnswer}
use Rattle.solver.specs.Cell.{built}
use Rattle.solver.specs.Parts.{cell_of}
use Rattle.solver.specs.Step.{stepped}
use Rattle.pack.specs.declared.PackCell.{PackCell}
use Rattle.pack.specs.Answers.{PackBuildAnswer, PackStepped}

-- ---- one cell
-- what the pack shares and a clock: the config's count of nodes in both particles
abbrev pub parts_with : SpmConfig → ElectrodeParams → ElectrodeParams → Float → SpmParts
parts_with g a c time = record { config = g; neg = a; n_neg = g.n_nodes; pos = c; n_pos = g.n_nodes; time_s = time }

-- the solver's cell that a cell of the pack is
abbrev pub solver_of : SpmConfig → ElectrodeParams → ElectrodeParams → PackCell → SpmSolver
solver_of g a c x = cell_of (parts_with g a c x.time_s) x.c_neg x.c_pos

-- what a pack keeps of a solver's cell
abbrev pub pack_cell_of : SpmSolver → PackCell
pack_cell_of s = record { c_neg = s.anode.c_s; c_pos = s.cathode.c_s; time_s = s.time_s }

-- what a pack answers of a solver's step: all but the cell
abbrev pub reported_of : SpmStepAnswer → SpmReported
reported_of r = record { refusal = r.refusal; state = r.state; sub_steps = r.sub_steps }

-- a fresh cell; beside a refusal every number is +0
unfoldable pub cell_built : SpmConfig → ElectrodeParams → ElectrodeParams → PackBuildAnswer
cell_built g a c = record { refusal = (built g a c).refusal; cell = pack_cell_of (built g a c).solver }

-- the solver's step
abbrev pub stepped_by_of : SpmStepAnswer → PackStepped
stepped_by_of r = record { cell = pack_cell_of r.solver; reported = reported_of r }

unfoldable pub cell_stepped : PackCell → SpmConfig → ElectrodeParams → ElectrodeParams → Float → Float → Float → PackStepped
cell_stepped x g a c i dt t = stepped_by_of (stepped (solver_of g a c x) i dt t)

-- ---- the pack
-- 1: a number of cells that is not 1 to 32
unfoldable pub count_refusal : ℕ → ℕ
count_refusal n = refusal_unless (count_in_range n 1 32) grid

-- 13, before all else: an index that is not below the number of cells
unfoldable pub place_refusal : ℕ → ℕ → ℕ
place_refusal n k = first_refusal (refusal_unless (ltb k n) index) (count_refusal n)

-- what stands past the last cell: no step reads it
abbrev pub blank : PackCell
blank = record { c_neg = []; c_pos = []; time_s = «0·0» }

-- what a call answers: of the cells it looks at their number and at the one that it names
unfoldable pub pack_answer : SpmConfig → ElectrodeParams → ElectrodeParams → List PackCell → ℕ → Float → Float → Float → SpmReported
pack_answer g a c xs k i dt t =
    cond (eqb (place_refusal (length xs) k) 0) (cell_stepped (get_or xs k blank) g a c i dt t).reported (refused_move (place_refusal (length xs) k))

-- all cells after it: the named one changed
unfoldable pub pack_cells : SpmConfig → ElectrodeParams → ElectrodeParams → List PackCell → ℕ → Float → Float → Float → List PackCell
pack_cells g a c xs k i dt t =
    cond (eqb (place_refusal (length xs) k) 0) (set xs k (cell_stepped (get_or xs k blank) g a c i dt t).cell) xs
