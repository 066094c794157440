-- The single-particle cell beyond its contracts: theorems 2 and 3 of the third demand, and what its calls lead to.
--
-- Theorems that rest on a definition or a lemma which an edit of must-fail/ changes stand in the module of that name in proofs/, marked (P) here. Where an edit changes the statement of such
-- a theorem, specs/ gives the statement: `Demand: SolverNear`, `Ranking: SolverRanking`, `RunLists: RunNear` are those of `solver_near`, `solver_ranking`, `run_near`;
-- `CycleLists: DoneCycle` holds that of `cycle_done`, `Instance: DischargeCalls` those of `discharge_taken` and `discharge_counted`.
--
-- WHERE TO START
--   Demand      THEOREM 2, `solver_near` (P): a cell that passes the checks, a list of calls of any length, each any three floats, and one of the electrodes; where every accepted call keeps
--               2·h·∣flux∣ ≤ D·M at that electrode, every node of it is within K·M / 2 ^ 49 of the exact scheme from the same start, K the sub-steps that the answers
--               report. `accepted_stable`: 6·D·t ≤ h², the demand's other condition, holds of every accepted call. What is folded (`cell_after`, `taken`, `K`) is `stepped`, the definition that the contract of `step` cites; each sub-step is dt / count long, in binary64.
--               `after_passes`: after any list of calls the cell passes the checks, so its nodes are finite
--   Ranking     THEOREM 3, `solver_ranking` (P): two cells of one make with equal profiles (`Twins`), two lists that keep that bound at both electrodes, their accepted calls paired
--               (`Paired`): then (`Ranked`) at no place is the second cathode more than 2·K·M / 2 ^ 49 below the first, or the second anode more than that above
--   RunLists    (P) `run_is_list`: the cell that a run leaves is the cell after one call of `step` for each of its rows, all of them accepted (`run_accepted`);  `run_near`, `run_ranked`: theorems 2 and 3 for it
--   ReplayLists (P) `replay_is_list`, `replay_accepted`: the same for a replay, whose calls are the numbers of its lines in order (`ReplayCalls: calls_of`);  `replay_row`: row j is the row of the
--               solver's own step with line j on the cell that the lines above left, `replay_line`: and that line is of its form and accepted;  `replay_kept`: the places after the last
--               row are as they were;  `replay_ends`: how it ends, `replay_done`, `replay_all_read`: done exactly where no byte is left and the last row did not cut off
--   ReplayDemand  (P) `replay_near`, `replay_ranked`: theorems 2 and 3 for the cells that replays leave, the premises line by line
--   CycleLists  (P) `cycle_is_list`, `cycle_accepted`: the same for a cycle of phases, whose calls are those of the phases under way in order (`CycleCalls: calls_of`);  `cycle_row`: row j is the
--               row of the solver's own step with the current of the phase then under way on the cell that the rows before left, `cycle_taken`: and that step is accepted;  `cycle_kept`: the
--               places after the last row are as they were;  `rows_most`, `cycle_room`: no more rows than the budget, and room for them;  `cycle_ends`: how it ends, `cycle_done`,
--               `cycle_done_only`: done exactly where no phase is left, `cycle_spent`, `cycle_spent_only`: spent exactly where the budget is made and a phase is left, `cycle_refused`,
--               `cycle_refused_step`: refused with which number, `cycle_no_row`: a cycle without a row is refused
--   CycleDemand  (P) `cycle_near`, `cycle_ranked`: theorems 2 and 3 for the cells that cycles leave; the bound is asked of each phase, wherever the phases end
--   Instance    the ready cell of graphite and lithium iron phosphate, 11 nodes: `discharge_near` (P), theorem 2 for a call of 64 sub-steps and one on what it leaves, refused calls before,
--               between and after them, K = 66;  `discharge_ranked` (P), theorem 3 for that list and one at 4 A with its refused calls elsewhere, from a cell of another clock.
--               Every premise is computed or proved, that the cells accept the calls too
--   ReplayInstance  (P) that cell and a text of three lines, the third in lower case: `text_near`, theorem 2 for what the replay leaves, with one row or two
--   CycleInstance  (P) that cell, a discharge and a rest, twice, four steps at most: `phases_unrefused`, the cycle is not refused;  `phases_near`, theorem 2 for what it leaves, wherever the
--               discharge ends
--
-- WHAT ELSE IS PROVED
--   Build       `build_passes`: an accepted build gives a cell that passes the checks;  `build_refused`: a refused one the record of zeros
--   Closure     `step_passes`: an accepted step leads to a cell that passes the checks again;  `step_refused`: a refused one leaves the cell as it is and reports no sub-steps;
--               `step_count`, `step_clock`, `step_make`: what it reports, the clock, and that config, sheets and counts of nodes stay;  `Leads`: what a step answers, in two cases
--   Acceptance  `step_accepted`: a step that neither its input nor its plan refuses is accepted, whatever the profiles, where the clock stays finite
--   Clock       `step_number`: 8 never comes from a step of the cell;  `step_again` (P): a step that is accepted is accepted again by the cell that it leaves
--   OhmicRise   `charge_rises`, `discharge_falls`: of two cells that differ in the electrolyte's resistance alone, the one with the larger has the higher voltage after an accepted step of
--               a charge, or the same, and the lower after one of a discharge
--   LowRates    `step_kept`: a step whose arguments of H are not below 2 ^ -10 in size is the step with H by the logarithm at every argument (`stepped_by_log`)
--   EarlierReference  `step_kept`: a step of a cell whose two sheets carry 298.15 K is the step with both diffusivities from the fixed 298.15 K (`stepped_from298`)
--   EarlierOhmicDrop  `step_kept`: a step at a current whose sign is not negative is the step with the ohmic drop times the current's sign (`stepped_by_signum`)
--   EarlierSubSteps  `step_kept`: a step that has as many sub-steps as with 0.45 of the stability limit is the step with 0.45 (`stepped_earlier`);
--               `count_grows`: a plan that is not refused was not refused with 0.45, and has as many sub-steps or more;  EarlierOvershoot: `centre_overshoots`, with 0.45 a sub-step could take the exact centre
--               beyond where its neighbour stood
--   Stability   `sub_step_stable`: 6·D·t ≤ h² at both electrodes for the sub-steps of a step that neither its input nor its plan refuses;  SubStepLength: `part_most`, a part of an interval is
--               longer than what it was divided by through roundings alone;  DtUse: that divisor, the least of the interval and the electrodes' longest sub-steps
--   AcceptedLists  lists whose calls are all accepted, and one call more at their end;  ListedDemand: theorems 2 and 3 for them (P);  ReplayTurns, CycleTurns (P): where a replay or a cycle stands
--               after each turn
--   RunEnds     (P) `run_ends`: a run is refused before its first row or not at all
--   CycleEnds   (P) `cycle_refused_first`, `cycle_unrefused`: so is a cycle;  `cycle_number`: one that is not refused as a whole is refused with 6 or 7 only
--   CyclePhases  (P) `cycle_calls`: each call of a cycle is that of one of its phases;  `done_rows`: a cycle that is done has a row for each phase of each repeat, or more
--   Electrodes  an electrode's particle and its numbers in a plan;  `sub_step_ranged` (P): each sub-step of an accepted call is in its ranges;  `count_most`: at most 4,096 of them;
--               `cathode_flux`, `anode_flux` (P): with the current the flux grows at the cathode and falls at the anode
--   Ordered     the exact scheme keeps the order of two profiles over two lists of calls
pub mod Electrodes
pub mod DtUse
pub mod SubStepLength
pub mod Stability
pub mod Closure
pub mod Build
pub mod Acceptance
pub mod Demand
pub mod Clock
pub mod LowRates
pub mod EarlierReference
pub mod EarlierOhmicDrop
pub mod EarlierSubSteps
pub mod OhmicRise
pub mod Ordered
pub mod Ranking
pub mod AcceptedLists
pub mod ListedDemand
pub mod RunLists
pub mod ReplayCalls
pub mod ReplayDemand
pub mod CycleCalls
pub mod CycleLists
pub mod CycleDemand
pub mod Instance
pub mod EarlierOvershoot
