-- The Doyle-Fuller-Newman cell, from docs/REFERENCE.md and dfn.rs.
--
-- Checks: what a cell that is handed in is checked for, and a step.
-- Answers: what a build and a step answer, and the results of the calls as these.
-- Step: what a step moves, reports, leaves and answers. `stepped` is what a run folds.
-- Parts: a step on the parts of a cell, its arrays lent.
-- Build: a new cell.
pub mod Checks
pub mod Answers
pub mod Step
pub mod Parts
pub mod Build
