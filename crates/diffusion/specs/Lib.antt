-- Diffusion in a spherical particle: the exact scheme, the binary64 sub-step, and how far the second strays from the first over a list of calls of any length.
--
-- WHERE TO START
--   Exact       the exact scheme on fractions: `centre`, `inner`, `surface` before the clamp, `exact_node` after it, `exact_step` for a profile. Nothing in it rounds.
--   Calls       lists of calls: `after`, the state; `exact_after`, the exact scheme given the same calls and whether each was refused; `total`, the number K of sub-steps
--   CallLaws    `calls_near`: every node is within K·M / 2 ^ 49 of the exact one;  `calls_ranking`: greater fluxes, nodes nowhere more than 2·K·M / 2 ^ 49 below
--
-- WHAT IS DEFINED
--   SubStep     the sub-step in binary64, operation by operation as the program has it; the contracts of the particle's and of the solver's step cite it
--   Premises    `TimeStepBound e`, `FluxBound e`: the demand's two conditions, 6·D·t ≤ h² and 2·h·∣flux∣ ≤ D·M, in exact fractions;  `StepConditions e`: both.  `ParametersInRange v`: 3 to 64 nodes, h and M within 2 ^ ±100, D within 2 ^ ±300,
--               an interval at least 0, a finite flux.  `ProfileInRange n M c`: each of the first n places of c is finite and from 0 to M
--   Run         `run` and `exact_run`: a list of sub-steps on one grid, each with its own diffusivity, flux and length.  `Each`, `Both`: what holds place by place of one or two lists
--   Calls       `Stepper`: a state of any kind, its calls, and the sub-steps that an accepted call makes.  `Lawful`: what a particle or an electrode has to show of its own
--
-- WHAT IS PROVED, in proofs/ (`share` and `bound`, which RunLaws speaks of, in specs/RunLaws)
--   ExactLaws   `contraction`: one exact sub-step brings two profiles no further apart;  `monotone`: it keeps their order, in the profile and in the flux. Both need 6·g ≤ 1 only
--   CentreNode  `centre_stays`: with 6·D·t ≤ h² the centre stays on its side of where its neighbour stood;  `centre_passes`: with 6·D·t above h² it goes beyond
--   Chain       centre-, inner- and surface-near: before the clamp each node is within 14·M / 2 ^ 53, by the roundings counted one by one
--   ClampValue  the clamp of binary64 is the exact clamp
--   OneStep     `sub_step_in_range`, `sub_step_near`: one sub-step keeps every node finite and from 0 to M, and within 14·M / 2 ^ 53 of the exact sub-step of the same profile
--   Profile     what each place holds after a sub-step; unused places stay
--   RunLaws     `run_near`: K sub-steps, K·M / 2 ^ 49;  `run_whole`, `run_length`, `run_unused`
--   Ordered     `ordered_run`: the exact scheme keeps the order of two profiles over two lists of sub-steps
--   Ranking     `ranking`, for two lists of sub-steps alike but for the fluxes
--   Copies      `run_times`: one sub-step k times over is a list of k
--   CallLaws    the same for lists of calls:  `calls_near`, `calls_in_range`, `calls_unused`, `calls_ranking`, `calls_total`
--   Examples    the exact scheme worked out on three nodes;  graphite, with a refused call in the list, meets every premise
--
-- HOW TO USE IT
-- A particle or an electrode gives a `Stepper`: `step` and `ok` from the definition that its contract cites, `moves` the sub-steps of a call (`replicate k m` for k equal ones), its
-- profile and its grid. It shows `Lawful` for the states of one sheet and one grid: that the profile after a call is `run` of those moves or as it was, and that the checks which
-- accept a call put its numbers in their ranges. `ConditionsHold` and `ProfileInRange` of the start are then the only premises of `calls_near` (a profile that passed a program's test is `ProfileInRange` by
-- `node_tested`). For the ranking R pairs two calls: it has to give sub-steps alike in diffusivity and length, the second's flux no less. Where the flux falls with the
-- current, exchange the two lists (`both_flip`); K is the same by `calls_total`.
pub mod SubStep
pub mod Exact
pub mod Premises
pub mod Places
pub mod Run
pub mod RunLaws
pub mod Calls
