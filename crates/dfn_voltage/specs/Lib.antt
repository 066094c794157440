-- The terminal voltage of the Doyle-Fuller-Newman cell, from docs/REFERENCE.md and dfn.rs.
pub mod Voltage
pub mod LowRates
