-- What docs/REFERENCE.md's table of refusals means.
--
-- Numbers: the numbers by name, the first of two that is met, and what a row that met nothing has passed.
-- Ranges: the tests on numbers that the rows cite.
-- RangeLaws: what numbers that passed have met.
-- EqualParts: tests and numbers of equal parts are equal, and a number that was met before is not met again.
-- Refusals: the rows as an enum, their numbers, and the number that a call has met.
-- Answers: what a call that gives a number says.
--
-- A call's refusal is written as the table has it, its rows in the order 1, 10, 2 to 9:
--     first_refusal (refusal_unless (count_in_range n 3 64) grid)
--     (first_refusal (refusal_unless (sheet_fits p) sheet) (refusal_unless (temperature_fits t) temperature))
-- and a caller that finds it 0 takes it apart by `neither_refused` and `passed`.
pub mod Numbers
pub mod Refusals
pub mod Ranges
pub mod RangeLaws
pub mod EqualParts
pub mod Answers
