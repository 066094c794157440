-- What `solve_dense` of dfn.rs answers, after the elimination of `dense_elimination`.
--
-- Substitution: the second half of the Rust.
-- Answers: what an answer says, refused or not.
-- Solve: the copies, the rows of docs/REFERENCE.md's table, and the whole answer.
pub mod Substitution
pub mod Answers
pub mod Solve
