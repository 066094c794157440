-- Several cells on one config and one pair of sheets.
--
-- Answers: what a build and a step of a cell say.
-- Pack:    a fresh cell, a step of a cell, and a step of the cell that is named: the answer and all cells after it.
-- Stepped: what a step on the parts of a cell gives is that step.
pub mod Answers
pub mod Pack
pub mod Stepped
