-- A cell file.
--
-- Answers: what a line and a file answer, as numbers.
-- Settings: what a line sets, and what a file sets.
-- Records: the numbers that a run starts from, and the records that a run's numbers make.
-- Ranges: the ranges of the names are those of the records' own tests.
-- ReferenceTemperature: t_ref where a cell file leaves it out.
pub mod Answers
pub mod Settings
pub mod Records
pub mod Ranges
pub mod ReferenceTemperature
