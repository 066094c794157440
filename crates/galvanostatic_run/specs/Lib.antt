-- A run of the Doyle-Fuller-Newman cell, from docs/REFERENCE.md ("Runs") and dfn.rs: every row is a step of the cell, the endings come in the paper's order, and
-- what the run gives and leaves in the slice is given whole.
pub mod States
pub mod Galvanostatic
pub mod Laws
