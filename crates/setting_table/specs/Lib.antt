-- The thirty-two numbers that a run is set by.
--
-- Names: the names, and the place of one.
-- Parts: the parts that they belong to, by number.
-- Ranges: the range of each number.
pub mod Names
pub mod Parts
pub mod Ranges
