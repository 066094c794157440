-- The electrolyte's parameters, from docs/REFERENCE.md and electrolyte.rs.
--
-- Params: the record's ranges, the ready one, the diffusivity and the conductivity at a temperature, bare and in a porous medium.
-- EarlierParams: with a reference temperature of 298.15 K, what they were before there was one.
-- Calls: what each rate answers, refusals included.
pub mod Params
pub mod EarlierParams
pub mod Calls
