-- The single-particle cell, from docs/REFERENCE.md and solver.rs.
--
-- Answers: what a build and a step say.
-- Cell: what a cell is checked for, how it is built, its numbers at rest.
-- Parts: a step on the parts of a cell, its profiles lent.
-- Step: a step in stages. `stepped` is what the contract cites and what the third demand folds.
pub mod Answers
pub mod Cell
pub mod Step
pub mod Parts
