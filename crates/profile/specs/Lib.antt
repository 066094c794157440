-- The profile of a particle, from docs/REFERENCE.md and electrode.rs.
--
-- Places: what the places are checked for.
-- Weights: the weights of the average and its two sums.
-- Sums: the two sums made in one loop.
-- SubSteps: the sub-step as the program makes it, with what does not change within a call worked out once.
-- Same: that it is the sub-step of `diffusion`.
pub mod Places
pub mod Weights
pub mod Sums
pub mod SubSteps
pub mod Same
