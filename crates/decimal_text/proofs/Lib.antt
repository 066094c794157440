-- Exact: up to 22 the power of ten is exact, so a quotient rounds once.
-- Runs: a run of digits, digit by digit, with its number cut where it cannot be read.
-- Cut: a number that is cut is read as the whole one, which is too long.
-- InParts: the parts of a text are found one after the other.
-- Answers: what the parts of a text lead to.
pub mod Exact
pub mod Runs
pub mod Cut
pub mod InParts
pub mod Answers
