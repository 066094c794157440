-- The particles of the Doyle-Fuller-Newman cell, from docs/REFERENCE.md and dfn.rs.
--
-- Answers: what a step answers, and the result of its call as this.
-- Solid: each node after a step, and the mean of the surfaces.
-- Room: they have room in 512 places.
pub mod Answers
pub mod Solid
pub mod Room
