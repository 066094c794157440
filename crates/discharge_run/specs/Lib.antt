-- A run of the single-particle cell, from docs/REFERENCE.md ("Runs") and solver.rs: every row is a step of the cell, the endings come in the paper's order, and
-- what the run gives and leaves in the slice is given whole.
pub mod States
pub mod Discharge
pub mod Laws
