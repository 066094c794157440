-- Which rows of numbers are copied as they are, what a call leaves in its answer, and how a run ended.
pub mod Rows
pub mod Written
