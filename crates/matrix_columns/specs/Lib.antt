-- The columns of a system, each cleared by its pivot.
pub mod Columns
