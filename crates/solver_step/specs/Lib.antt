-- A step of the single-particle cell on lent profiles, from docs/REFERENCE.md and solver.rs.
--
-- Arguments: what a step is refused for by its arguments alone, 3 to 5.
-- Plans: diffusivities, fluxes, the interval in units of the longest sub-step; 6 and 7; the count of sub-steps.
-- Report: what a particle shows at its surface, and the report from both surfaces.
-- Answers: what a step on lent profiles says.
-- Moves: the sub-steps of a plan, then the report.
pub mod Arguments
pub mod Plans
pub mod Report
pub mod Answers
pub mod Moves
