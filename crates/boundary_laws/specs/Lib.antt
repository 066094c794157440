-- Lists of calls from C: they are lists of the calls that their definitions give, so theorems 1 to 3 of the third demand hold of the words of images.
--
-- Theorems that rest on a definition which an edit of must-fail/ changes stand in the module of that name in proofs/, marked (P) here.
--
-- WHERE TO START
--   CallLists         what a list of calls from C is (`image_after`): each call is handed the image that the last answer begins with; refused calls and wrong lengths change nothing.
--                     `simulates`: the record of the last image is the record after the same calls (`record_after`), and the calls that return 0 are those that are accepted.
--                     One law for every kind of call (`Calls`, `Implements`), and for kinds that are mixed (`or_else`)
--   StepLists         the four steps. `particle_simulates`, `cell_simulates` (P): the folds are those that theorems 1 to 3 go over; the sub-steps of the answers add up to K
--   MixedLists        `particle_calls_simulate`, `cell_calls_simulate` (P), `electrolyte_calls_simulate`, `dfn_calls_simulate`: lists that mix builds, steps and runs, those of the cell replays and cycles too
--   Demand            THEOREM 1 `particle_images_near`, THEOREM 2 `cell_images_near`, THEOREM 3 `cell_images_ranked` (P), for the words of the last image
--   MixedDemand       theorem 2 of lists that mix builds, steps, runs, replays and cycles, `mixed_images_near` (P), from the cell of the last accepted build
--   Instance          the cell of `pj_build` 8 and six calls of `pj_cell_step`, three refused and one with a short answer: `image_near`, `image_ranked` (P)
--   ParticleInstance  the particle of `pj_build` 7 and six calls of `pj_particle_step`: `particle_image_near`, K = 3
--   SearchedRuns      `discharge_first_below`, `galvanostatic_first_below`: on the rows and the summary that a run from C left, the search from C answers what a full read gives
--   MixedInstance     two builds, three steps, a run, a replay and a cycle from an image of zeros: `mixed_image_near` (P)
--
-- WHAT THEY STAND ON
--   BuildLists, RunLists, ReplayLists, CycleLists  builds, runs, replays and cycles as kinds of calls; that those of a cell implement their definitions (P);  Nodes: the nodes as words of an image;  BuiltCells: a cell that a build answers passes the checks
pub mod CallLists
pub mod StepLists
pub mod BuildLists
pub mod RunLists
pub mod ReplayLists
pub mod CycleLists
pub mod MixedLists
pub mod Nodes
pub mod Demand
pub mod BuiltCells
pub mod MixedDemand
pub mod Instance
pub mod ParticleInstance
pub mod MixedInstance
pub mod SearchedRuns
