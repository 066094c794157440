-- A particle and the diffusion in it, from docs/REFERENCE.md and electrode.rs.
--
-- Checks: what a particle that is handed in is checked for.
-- Particle: spacing, stoichiometries, average, stable interval.
-- Answers: what a call that makes a particle answers.
-- Calls: what each public call answers, refusals included. `stepped` is what the third demand folds.
pub mod Checks
pub mod Particle
pub mod Answers
pub mod Calls
