-- A recorded load replayed on the single-particle cell, from docs/REFERENCE.md ("Replay").
--
-- Answers: a line and a replay on its way as the definitions see them.
-- Lines: the text line by line, and the numbers of a line.
-- Reads: what the code reads of a text.
-- Replay: every row is a step of the cell with the numbers of its line; what the replay gives and leaves in the slice is given whole.
-- Laws: a turn that is not refused writes one row.
pub mod Answers
pub mod Lines
pub mod Reads
pub mod Replay
pub mod Laws
