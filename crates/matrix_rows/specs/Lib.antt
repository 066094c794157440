-- The rows of a system, as `solve_dense` of dfn.rs exchanges and reduces them, loop by loop.
--
-- Loops: `for i in from..to`, and the same with a turn that can refuse and so ends it.
-- Places: the places of a list and the entries of a matrix.
-- Rows: the exchange of rows, their reduction.
pub mod Loops
pub mod Places
pub mod Rows
