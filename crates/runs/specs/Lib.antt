-- Runs into a lent slice, for every kind of cell.
--
-- Endings: docs/REFERENCE.md's endings, and what the enum says.
-- Rows: what stands after k turns of a run, and what the slice then holds.
-- RunAnswers: when the answer of a run is written.
-- Laws: how a turn goes on or ends; a run's loop keeps `Going` and leaves by `ends_refused`, `ends_stopped` or `ends_full`.
-- RowPlaces: each row stands at its eight places, and the places after the last one are as they were.
-- Simulation: a run that simulates another gives what the other gives.
-- Causes: what has ended a run, its rows or the step after them.
-- Lowest: the lowest voltage of each group of 64 rows, kept beside them, and the places that a run is lent for both.
-- LowestLaws: what is brought up to date with each row is the summary of the rows.
pub mod Endings
pub mod Rows
pub mod RunAnswers
pub mod Laws
pub mod RowPlaces
pub mod Simulation
pub mod Causes
pub mod Lowest
pub mod LowestLaws
