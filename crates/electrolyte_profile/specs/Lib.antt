-- The electrolyte's profile, from docs/REFERENCE.md and electrolyte.rs.
--
-- Places: what a profile is checked for, the sum.
-- Step: a node after a step, and the profile, all from the old one.
-- Again: the floor, and a uniform profile that fits; in proofs/Again that a profile that fits does so again after a step whose every place is finite.
pub mod Places
pub mod Step
pub mod Again
