-- The parameters and the grid of the Doyle-Fuller-Newman cell, from docs/REFERENCE.md and dfn.rs.
--
-- Ranges: what the fields are checked for.
-- Ready: the two ready sets.
-- Sides: the two electrodes and their open-circuit potentials.
pub mod Ranges
pub mod Ready
pub mod Sides
