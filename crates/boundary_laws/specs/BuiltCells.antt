-- A cell that a build answers passes the checks, so it can be stepped and run. Assumes nothing.
use Rattle.std.specs.Prelude.{ℕ, ◌≡◌, List, eqb}
use Rattle.matrix_rows.specs.Loops.{either}
use Rattle.electrode.specs.Sheet.{graphite_anode, lfp_cathode, nmc_cathode}
use Rattle.solver.specs.Answers.{SpmBuildAnswer}
use Rattle.solver.specs.Cell as S
use Rattle.solver_laws.specs.Build.{build_passes}
use Rattle.sheet_images.specs.Images.{sheet_at, config_at}
use Rattle.image_builds.specs.Builds.{cell_built}
use Rattle.image_laws.specs.CellEncodable.{sheet_at-row}
use Rattle.image_laws.specs.CellBuilds.{graphite_encodable, lfp_encodable, nmc_encodable}
use Rattle.image_layout.specs.Layout.{new_cell_anode, new_cell_cathode}

-- THE CELL OF AN ACCEPTED BUILD, call 8, 9 or 10, passes the checks
pub cell_build_passes : (call : ℕ) (s : List ℕ) → (cell_built call s).refusal ≡ 0 → S.cell_refusal (cell_built call s).solver ≡ 0
unfolding cell_built
cell_build_passes call s =
    let P : SpmBuildAnswer → Type 0 = λ x. x.refusal ≡ 0 → S.cell_refusal x.solver ≡ 0 in
    either P (eqb call 8) (S.ready (config_at s) lfp_cathode) _ (build_passes (config_at s) graphite_anode lfp_cathode (graphite_encodable.place 2) (lfp_encodable.place 2))
    (either P (eqb call 9) (S.ready (config_at s) nmc_cathode) (S.built (config_at s) (sheet_at s new_cell_anode) (sheet_at s new_cell_cathode))
    (build_passes (config_at s) graphite_anode nmc_cathode (graphite_encodable.place 2) (nmc_encodable.place 2))
    (build_passes (config_at s) (sheet_at s new_cell_anode) (sheet_at s new_cell_cathode) ((sheet_at-row s new_cell_anode).place 2) ((sheet_at-row s new_cell_cathode).place 2)))
