-- The elimination of `solve_dense` of dfn.rs: the pivots, and the columns by them.
pub mod Elimination
