-- The electrolyte, from docs/REFERENCE.md and electrolyte.rs.
--
-- State: the state's ranges, the mean, the largest stable interval, what a step works with.
-- Answers: what an answer says, refused or not.
-- Calls: what each public call answers, refusals included.
-- Accepted: what a call that nothing refuses has met.
-- Again: an accepted build or step hands out a state that passes the checks again, and a refused step changes nothing.
pub mod State
pub mod Answers
pub mod Calls
pub mod Accepted
pub mod Again
