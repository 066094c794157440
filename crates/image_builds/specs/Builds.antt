-- What each call that gives a record writes, by its number. Definitions only.
use Rattle.std.specs.Prelude.{ℕ, ◌+◌, cond, List, eqb, leb}
use Rattle.codec.specs.Words.{word_at, float_at}
use Rattle.electrode.specs.declared.ElectrodeParams.{ElectrodeParams}
use Rattle.electrode.specs.Sheet.{graphite_anode, lfp_cathode, nmc_cathode}
use Rattle.particle.specs.Answers.{ParticleAnswer}
use Rattle.particle.specs.Calls as P
use Rattle.solver.specs.Answers.{SpmBuildAnswer}
use Rattle.solver.specs.Cell as S
use Rattle.electrolyte.specs.Answers.{ElectrolyteAnswer}
use Rattle.electrolyte_parameters.specs.Params.{lipf6_ec_dmc}
use Rattle.electrolyte.specs.State.{unfilled}
use Rattle.electrolyte.specs.Calls as E
use Rattle.dfn_parameters.specs.declared.DfnParams.{DfnParams}
use Rattle.dfn_parameters.specs.Ready.{nmc_graphite, lfp_graphite}
use Rattle.dfn.specs.Answers.{DfnBuildAnswer}
use Rattle.dfn.specs.Build as D
use Rattle.cell_images.specs.Images.{put_cell}
use Rattle.sheet_images.specs.Images.{sheet_at, config_at, put_sheet, put_particle}
use Rattle.electrolyte_images.specs.Images.{electrolyte_params_at, put_electrolyte_params, put_electrolyte}
use Rattle.parameter_images.specs.Images.{params_at, put_params}
use Rattle.parameter_images.specs.Images as G
use Rattle.dfn_images.specs.Images as I
use Rattle.image_rows.specs.Written.{written}
use Rattle.image_layout.specs.Layout.{new_cell_anode, electrolyte_regions, particle_nodes, electrolyte_nodes_neg, electrolyte_nodes_sep, electrolyte_nodes_pos, new_cell_cathode, config_bytes, electrolyte_params_bytes, sheet_bytes, new_particle_bytes, regions_bytes, new_cell_bytes, dfn_params_bytes, new_dfn_bytes, particle_bytes, electrolyte_bytes, cell_bytes, dfn_bytes}

-- ---- ready records: 1 graphite_anode, 2 lfp_cathode, 3 nmc_cathode, 4 lipf6_ec_dmc, 5 nmc_graphite, 6 lfp_graphite

unfoldable pub ready_sheet : ℕ → ElectrodeParams
ready_sheet call = cond (eqb call 1) graphite_anode (cond (eqb call 2) lfp_cathode nmc_cathode)

unfoldable pub ready_params : ℕ → DfnParams
ready_params call = cond (eqb call 5) nmc_graphite lfp_graphite

unfoldable pub ready_put : ℕ → List ℕ → List ℕ
ready_put call a =
    cond (leb call 3) (put_sheet a 0 (ready_sheet call)) (cond (eqb call 4) (put_electrolyte_params a lipf6_ec_dmc) (put_params a (ready_params call)))

-- ---- new records from their images

-- 7: a sheet, a count of nodes
unfoldable pub particle_made : List ℕ → ParticleAnswer
particle_made s = P.made (sheet_at s 0) (word_at s particle_nodes)

-- 8 graphite_lfp, 9 graphite_nmc: a configuration; 10: a configuration and two sheets
unfoldable pub cell_built : ℕ → List ℕ → SpmBuildAnswer
cell_built call s =
    cond (eqb call 8) (S.ready (config_at s) lfp_cathode)
    (cond (eqb call 9) (S.ready (config_at s) nmc_cathode) (S.built (config_at s) (sheet_at s new_cell_anode) (sheet_at s new_cell_cathode)))

-- 11: an electrolyte's image without its places
unfoldable pub electrolyte_built : List ℕ → ElectrolyteAnswer
electrolyte_built s =
    E.built
    (unfilled (electrolyte_params_at s) (float_at s electrolyte_regions) (float_at s (electrolyte_regions + 1)) (float_at s (electrolyte_regions + 2))
    (float_at s (electrolyte_regions + 3)) (float_at s (electrolyte_regions + 4)) (float_at s (electrolyte_regions + 5)) (word_at s electrolyte_nodes_neg) (word_at s electrolyte_nodes_sep) (word_at s electrolyte_nodes_pos))

-- 12: parameters and grid
unfoldable pub dfn_made : List ℕ → DfnBuildAnswer
dfn_made s = D.made (params_at s) (G.config_at s)

unfoldable pub new_return : ℕ → List ℕ → ℕ
new_return call s =
    cond (eqb call 7) (particle_made s).refusal
    (cond (leb call 10) (cell_built call s).refusal (cond (eqb call 11) (electrolyte_built s).refusal (dfn_made s).refusal))

unfoldable pub new_after : ℕ → List ℕ → List ℕ → List ℕ
new_after call s a =
    cond (eqb call 7) (written (particle_made s).refusal (put_particle a 0 (particle_made s).particle) a)
    (cond (leb call 10) (written (cell_built call s).refusal (put_cell a (cell_built call s).solver) a)
    (cond (eqb call 11) (written (electrolyte_built s).refusal (put_electrolyte a (electrolyte_built s).state) a)
    (written (dfn_made s).refusal (I.put_cell a (dfn_made s).cell) a)))

-- ---- lengths in bytes of the image and of the answer

unfoldable pub build_length : ℕ → ℕ
build_length call =
    cond (leb call 6) 0 (cond (eqb call 7) new_particle_bytes (cond (leb call 9) config_bytes (cond (eqb call 10) new_cell_bytes (cond (eqb call 11) regions_bytes new_dfn_bytes))))

unfoldable pub built_length : ℕ → ℕ
built_length call =
    cond (leb call 3) sheet_bytes
    (cond (eqb call 4) electrolyte_params_bytes
    (cond (leb call 6) dfn_params_bytes (cond (eqb call 7) particle_bytes (cond (leb call 10) cell_bytes (cond (eqb call 11) electrolyte_bytes dfn_bytes)))))
