-- A particle's calls beyond their contracts: theorem 1 of the third demand, what the calls lead to, and that 8 never comes from them.
--
-- WHERE TO START
--   Demand      THEOREM 1, `particle_near`: a particle that passes the checks, a list of calls of any length, each any three floats; where every accepted call keeps 6·D·t ≤ h² and
--               2·h·∣flux∣ ≤ D·M, every node is within K·M / 2 ^ 49 of the exact scheme from the same start, K the number of accepted calls. What is folded is `stepped`, the
--               definition that the contract of `step` cites.  `after_passes`: after any list of calls the particle passes the checks, so its nodes are finite
--   proofs/Demand     `at_accepted` and `at_refused` say what one call does to the particle, to the exact scheme and to K;  `particle_equal`: where none is accepted the values are equal
--   proofs/Instance   the ready graphite sheet, 11 nodes, three steps and two refused calls: every premise computed, and theorem 1 for them
--
-- WHAT ELSE IS PROVED
--   Closure     `step-passes`: an accepted step leads to a particle that passes the checks again;  `step-refused`: a refused one leaves the particle as it is;
--               `step-params`, `step-nodes`, `step-unused`: the sheet, the count of nodes and the unused places stay;  `build-passes`: an accepted build passes the checks;
--               `step-number`: a step's number is settled before it is made, so 8 never comes from it
--   Accepted    `answer_number`: a particle that passes the checks answers a call with the number that the call meets by itself;  proofs/Accepted, `taken_are`: which calls of a
--               list are accepted depends on each call's own numbers alone
--   Finite      8 never comes from dt_stable, theta_surface, c_avg and theta_avg: `dt-stable-is`, `theta-surface-is`, `c-avg-is`, `theta-avg-is`
--   Potential   nor from ocp_surface, `ocp-surface-is`: each open-circuit curve is finite wherever the stoichiometry is a number (`open-circuit-sized`)
--   Nodes       `Node-in`: every node of a sub-step in its ranges is from 0 to c_s_max, whether the two conditions hold or not
--   Ranges      for a particle that passes the checks, from 200 to 400 K: the spacing from 2 ^ -33 to 2 ^ -10, D from 2 ^ -97 to 2 ^ 4, c_s_max from 1 to 2 ^ 17, and each other
--               number of its sheet;  `Ranged`: what a sub-step works with, in such ranges;  `particle-ranged`, `step-ranged`, `ranged-parameters` lead there and to diffusion's `ParametersInRange`
--   Checked     the checks place by place: a used place from 0 to c_s_max, an unused one +0, all 64 there (`particle-in-range`); and that they are all that is asked (`particle-passes`)
--
-- HOW A SOLVER USES IT: for each electrode `particle-ranged` with its own diffusivity, flux and sub-interval gives `Ranged`, then `ranged-parameters` and `Node-in`; `particle-in-range` is the
-- start that `calls_near` of diffusion asks for; `particle-passes` closes the circle.
pub mod Ranges
pub mod Checked
pub mod Nodes
pub mod Closure
pub mod Demand
pub mod Accepted
pub mod Finite
pub mod Potential
