-- The open-circuit curves, from docs/REFERENCE.md and electrode.rs.
--
-- Curves: the open-circuit potential of each chemistry, and its slope.
pub mod Curves
