-- The kinetics of a single-particle cell: configuration, fluxes, overpotential and voltage, from docs/REFERENCE.md and solver.rs.
pub mod Kinetics
pub mod LowRates
pub mod EarlierOhmicDrop
