-- What the calls of the Doyle-Fuller-Newman cell lead to: an accepted build and an accepted step to a cell that passes the checks, so that in the middle
-- of a run only 8 can come; a refused step to the cell as it was.
--
-- Clamped: numbers that a clamp holds.
-- Tests: the numbers' ranges out of the parameters' tests.
-- Arrays: the particles and the electrolyte after a step.
-- Closure: `step_refused`, `accepted_step`; in proofs/Closure `step_passes`, and `next_step`, what they say of the step after.
-- Build: `build_passes`, `build_refused`.
-- LowRates: `step_kept`, a step whose arguments of H are not below 2 ^ -10 in size is the step with H by the logarithm at every argument.
pub mod Clamped
pub mod Tests
pub mod Arrays
pub mod Closure
pub mod Build
pub mod LowRates
