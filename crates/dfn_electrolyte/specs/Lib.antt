-- The electrolyte of the Doyle-Fuller-Newman cell, from docs/REFERENCE.md and dfn.rs.
--
-- Electrolyte: each node after a step. `node_with` says which nodes move.
pub mod Electrolyte
